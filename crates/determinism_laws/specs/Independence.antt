-- Next segments that other moves do not change.
use Rattle.std.specs.Prelude.{◌≡◌, ℕ}
use Rattle.twe_program.specs.Program.{Program}
use Rattle.seg_meaning.specs.Access.{after}
use Rattle.machine_state.specs.declared.state.State.{State}
use Rattle.machine_state.specs.declared.state.TaskRow.{TaskRow}
use Rattle.machine_state.specs.Changes.{next_segment}
use Rattle.machine_state.specs.Legal.{MayRun}
use Rattle.machine_state.specs.Rows.{IsRow}

-- In the later state task s still has this row and may still run, and its next segment is the one of the earlier state: it
-- makes the same accesses, with the same values, leaves the same frame and stops in the same way. Its cells are those of the
-- later state after these accesses.
pub record KeepsNextSegment (p : Program) (earlier later : State) (s : ℕ) (row : TaskRow) : Type 0 where
  pub there : IsRow later s row
  pub may : MayRun later s
  pub same : next_segment p later row
      ≡ record (next_segment p earlier row) { cells = after later.cells (next_segment p earlier row).accesses }
