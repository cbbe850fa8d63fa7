-- The task whose value a move takes.
use Rattle.std.specs.Prelude.{ℕ, Option, None, Some, slice_get}
use Rattle.seg_journal.specs.declared.moves.Kind.{Kind}
use Rattle.seg_journal.specs.declared.moves.Kind.TheVariants.{Admit, Run}
use Rattle.machine_state.specs.declared.state.State.{State}
use Rattle.machine_state.specs.declared.state.TaskRow.{TaskRow}
use Rattle.machine_state.specs.Rows.{row_awaited}

-- the task whose value a move of this kind takes, if it takes one, by the row of its own task
abbrev pub taken_found : Kind → Option TaskRow → Option ℕ
taken_found Admit found = None
taken_found Run None = None
taken_found Run (Some row) = row_awaited row.frame.next

-- the task whose value a move takes, if it takes one
abbrev pub taken_at : State → Kind → ℕ → Option ℕ
taken_at st kind task = taken_found kind (slice_get st.tasks task)
