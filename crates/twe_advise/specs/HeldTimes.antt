-- How long the tasks of a declaration were held.
use Rattle.std.specs.Prelude.{◌==◌, ℕ, Bool, false, List, Option, None, Some, if◌then◌else◌, slice_get, sum_by}
use Rattle.held_span.specs.declared.hold.Hold.{Hold}
use Rattle.machine_state.specs.declared.state.TaskRow.{TaskRow}

-- whether the row of a task that was looked up is of the declaration with this number
abbrev pub is_row_of : ℕ → Option TaskRow → Bool
is_row_of number None = false
is_row_of number (Some row) = row.decl == number

-- how long the task of a hold was held, if it is of the declaration, and else 0
abbrev pub hold_time : List TaskRow → ℕ → Hold → ℕ
hold_time rows number hold = if is_row_of number (slice_get rows hold.task) then hold.time else 0

-- how long the tasks of the declaration were held in all
abbrev pub held_time : List TaskRow → List Hold → ℕ → ℕ
held_time rows holds number = sum_by (hold_time rows number) holds
