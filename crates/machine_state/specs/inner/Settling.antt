-- A segment that runs while its frame is out of its row.
use Rattle.std.specs.Prelude.{ℕ}
use Rattle.twe_base.specs.Limits.{Bounds}
use Rattle.twe_program.specs.Program.{Program}
use Rattle.seg_meaning.specs.Segment.{segment}
use Rattle.machine_state.specs.declared.state.State.{State}
use Rattle.machine_state.specs.declared.state.TaskRow.{TaskRow}
use Rattle.machine_state.specs.Moves.{MaySettle, ready_frame}
use Rattle.machine_state.specs.Rows.{IsRow}

-- the frame that the next segment of t leaves may be settled
abbrev pub SettlesAfter : Program → Bounds → State → ℕ → Type 0
SettlesAfter p lim st t =
    (row : TaskRow) → IsRow st t row
    → let after = segment p (ready_frame st.tasks row.frame) st.cells in MaySettle lim st t after.frame after.stop
