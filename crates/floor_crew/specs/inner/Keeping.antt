-- The run of a crew, and what a quiet step does to it.
use Rattle.std.specs.Prelude.{◌≡◌, ◌↔◌, List, [], ◌∷◌, ◌++◌, Option, None, Some}
use Rattle.region_paths.specs.declared.elements.Elem.{Elem}
use Rattle.prefix_tree.specs.Nodes.{IsNode, IsTreeOfPaths}
use Rattle.seg_journal.specs.declared.journal.Entry.{Entry}
use Rattle.seg_journal.specs.declared.moves.Move.{Move}
use Rattle.twe_base.specs.Limits.{Bounds}
use Rattle.twe_program.specs.Nodes.{IsNodePath}
use Rattle.twe_program.specs.Program.{Program}
use Rattle.machine_state.specs.declared.ending.Outcome.TheVariants as outcomes
use Rattle.machine_state.specs.LowestFirst.{IsLowest}
use Rattle.machine_state.specs.Runs.{IsOutcome, entry_of}
use Rattle.flat_sched.specs.declared.ending.RunEnd.{RunEnd}
use Rattle.flat_sched.specs.declared.ending.RunEnd.TheVariants.{AllDone, Fault, Stuck, Unfinished}
use Rattle.flat_sched.specs.RunEnds.{IsRunEnd}
use Rattle.floor_crew.specs.declared.at_rest.RunAtRest.{RunAtRest}
use Rattle.floor_crew.specs.inner.GoingOn.{IsSound}

-- the journal of a crew, or None once memory ran out
abbrev pub journal_of : Option RunAtRest → Option (List Entry)
journal_of None = None
journal_of (Some run) = Some run.rest.journal

-- the run of a crew is one of its program under its limits
abbrev pub RunIsKept : Program → Bounds → Option RunAtRest → Type 0
RunIsKept p lim None = Unit {0}
RunIsKept p lim (Some run) = IsSound p lim run

-- the nodes are those of the program's tree
pub record IsShapeOf (p : Program) (nodes : List (List Elem)) : Type 0 where
  pub tree : IsTreeOfPaths nodes
  pub exact : (path : List Elem) → (IsNode nodes path ↔ IsNodePath p path)

-- by how the run stood: the step takes the lowest legal move, if the run can go on, and else changes nothing
abbrev pub Steps : Program → Bounds → RunAtRest → RunAtRest → RunEnd → Type 0
Steps p lim old new AllDone = (new ≡ old) × IsRunEnd old.rest.state AllDone
Steps p lim old new (Fault task kind place) = (new ≡ old) × IsRunEnd old.rest.state (Fault task kind place)
Steps p lim old new (Stuck cycle) = (new ≡ old) × IsRunEnd old.rest.state (Stuck cycle)
Steps p lim old new Unfinished =
    IsOutcome old.rest.state outcomes.Unfinished
    × ((mv : Move) × IsLowest old.rest.state mv
    × (new.rest.journal ≡ old.rest.journal ++ entry_of p lim old.rest.state mv ∷ []))
