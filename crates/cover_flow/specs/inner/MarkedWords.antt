-- The facts of 128 futures at each point of a body, by the turns of its loops.
use Rattle.std.specs.Prelude.{ℕ, List, if◌then◌else◌, slice_index_or, slice_set, replicate}
use Rattle.twe_base.specs.Stacks.{top, below}
use Rattle.twe_program.specs.declared.program.Body.{Body}
use Rattle.twe_program.specs.Statement.{Statement, Block, If, While, Return, Make, Wait, Statements, no_more, statement, Arms, arm, otherwise, no_else}
use Rattle.cover_flow.specs.declared.facts.Facts.{Facts}
use Rattle.cover_flow.specs.ControlPath.{point_of, end_of}
use Rattle.cover_flow.specs.inner.Words.{none_come, start_words, joined_words, put_out_words, taken_in_words, mask_of}
use Rattle.cover_flow.specs.inner.Transfers.{Turns, unchanged, entered, turns_of_all}

-- which turns are left after the loops within have taken theirs
abbrev mutual
  pub left : Statement → Turns → Turns
  left (Block point body) turns = left_all body turns
  left (If point arms) turns = left_one arms turns
  left (While point condition body place) turns = left_all body (below turns)
  left s turns = turns

  pub left_all : Statements → Turns → Turns
  left_all no_more turns = turns
  left_all (statement s others) turns = left_all others (left s turns)

  pub left_one : Arms → Turns → Turns
  left_one (arm condition body others) turns = left_one others (left_all body turns)
  left_one (otherwise body) turns = left_all body turns
  left_one no_else turns = turns

-- the facts after a statement that has no others inside it, and is no return
abbrev pub led_simple : ℕ → Statement → Facts → Facts
led_simple first (Make point future task args spawned future_place place) facts =
    if spawned then put_out_words (mask_of first future) facts else facts
led_simple first (Wait point future join into place) facts = if join then taken_in_words (mask_of first future) facts else facts
led_simple first s facts = facts

-- the facts after a statement whose loops have these turns
abbrev mutual
  pub led : ℕ → Statement → Facts → Turns → Facts
  led first (Block point body) facts turns = led_all first body facts turns
  led first (If point arms) facts turns = led_one first none_come arms facts turns
  led first (While point condition body place) facts turns = entered (top turns unchanged) facts
  led first (Return point value) facts turns = none_come
  led first s facts turns = led_simple first s facts

  pub led_all : ℕ → Statements → Facts → Turns → Facts
  led_all first no_more facts turns = facts
  led_all first (statement s others) facts turns = led_all first others (led first s facts turns) (left s turns)

  -- after one of the branches before, or one of these
  pub led_one : ℕ → Facts → Arms → Facts → Turns → Facts
  led_one first before (arm condition body others) facts turns =
      led_one first (joined_words before (led_all first body facts turns)) others facts (left_all body turns)
  led_one first before (otherwise body) facts turns = joined_words before (led_all first body facts turns)
  led_one first before no_else facts turns = joined_words before facts

-- the facts are joined into those of the point
abbrev pub noted_words : List Facts → ℕ → Facts → List Facts
noted_words rows point facts = slice_set rows point (joined_words (slice_index_or rows point none_come) facts)

-- what paths that come to the statement with these facts add at the points within it, and by returns at the end
abbrev mutual
  pub marked_words : ℕ → ℕ → Statement → Facts → Turns → List Facts → List Facts
  marked_words first end (Block point body) facts turns rows =
      marked_words_all first end body facts turns (noted_words rows point facts)
  marked_words first end (If point arms) facts turns rows =
      marked_words_one first end arms facts turns (noted_words rows point facts)
  marked_words first end (While point condition body place) facts turns rows =
      marked_words_all first end body (entered (top turns unchanged) facts) (below turns)
      (noted_words rows point (entered (top turns unchanged) facts))
  marked_words first end (Return point value) facts turns rows = noted_words (noted_words rows point facts) end facts
  marked_words first end s facts turns rows = noted_words rows (point_of s) facts

  pub marked_words_all : ℕ → ℕ → Statements → Facts → Turns → List Facts → List Facts
  marked_words_all first end no_more facts turns rows = rows
  marked_words_all first end (statement s others) facts turns rows =
      marked_words_all first end others (led first s facts turns) (left s turns) (marked_words first end s facts turns rows)

  pub marked_words_one : ℕ → ℕ → Arms → Facts → Turns → List Facts → List Facts
  marked_words_one first end (arm condition body others) facts turns rows =
      marked_words_one first end others facts (left_all body turns) (marked_words_all first end body facts turns rows)
  marked_words_one first end (otherwise body) facts turns rows = marked_words_all first end body facts turns rows
  marked_words_one first end no_else facts turns rows = rows

-- the rows with the facts at each point of a body
abbrev pub filled_words : List Facts → Turns → Body → ℕ → List Facts
filled_words rows turns body first =
    noted_words (marked_words_all first (end_of body) body.block start_words turns rows)
    (end_of body) (led_all first body.block start_words turns)

-- the facts at each point of a body
abbrev pub rows_of : Body → ℕ → List Facts
rows_of body first = filled_words (replicate body.points none_come) (turns_of_all first body.block) body first
