-- The facts of one future at each point, as a list by the numbers of the points.
use Rattle.std.specs.Prelude.{ℕ, List, slice_index_or, slice_set, replicate}
use Rattle.twe_program.specs.declared.program.Body.{Body}
use Rattle.twe_program.specs.Statement.{Statement, Block, If, While, Return, Statements, no_more, statement, Arms, arm, otherwise, no_else}
use Rattle.cover_flow.specs.declared.facts.Fact.{Fact}
use Rattle.cover_flow.specs.ControlPath.{point_of, end_of}
use Rattle.cover_flow.specs.inner.After.{nowhere, at_start, joined, after, after_all}

-- the fact is joined into that of the point
abbrev pub noted : List Fact → ℕ → Fact → List Fact
noted row point seen = slice_set row point (joined (slice_index_or row point nowhere) seen)

-- what paths that come to the statement with the fact `seen` add at the points within it, and by returns at the end
abbrev mutual
  pub marked : ℕ → ℕ → Statement → Fact → List Fact → List Fact
  marked f end (Block point body) seen row = marked_all f end body seen (noted row point seen)
  marked f end (If point arms) seen row = marked_one f end arms seen (noted row point seen)
  marked f end (While point condition body place) seen row =
      marked_all f end body (joined seen (after_all f body seen)) (noted row point (joined seen (after_all f body seen)))
  marked f end (Return point value) seen row = noted (noted row point seen) end seen
  marked f end s seen row = noted row (point_of s) seen

  pub marked_all : ℕ → ℕ → Statements → Fact → List Fact → List Fact
  marked_all f end no_more seen row = row
  marked_all f end (statement first others) seen row = marked_all f end others (after f first seen) (marked f end first seen row)

  pub marked_one : ℕ → ℕ → Arms → Fact → List Fact → List Fact
  marked_one f end (arm condition body others) seen row = marked_one f end others seen (marked_all f end body seen row)
  marked_one f end (otherwise body) seen row = marked_all f end body seen row
  marked_one f end no_else seen row = row

-- the row with the fact of the future at each point of a body
abbrev pub filled_in : List Fact → Body → ℕ → List Fact
filled_in row body f = noted (marked_all f (end_of body) body.block at_start row) (end_of body) (after_all f body.block at_start)

-- the facts of the future at each point of a body
abbrev pub row_of : Body → ℕ → List Fact
row_of body f = filled_in (replicate body.points nowhere) body f
