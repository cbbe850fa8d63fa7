use Rattle.std.proofs.Common.{◌≡◌, ◌<◌, ℕ, Some}
use Rattle.std.specs.Prelude.{slice_get}
use Rattle.machine_state.specs.declared.state.TaskRow.{TaskRow}
use Rattle.state_copies.specs.inner.Rows.{RowsMatch}
use Rattle.state_copies.proofs.rows.rows_match.Given as goal

-- the rows before this one match
abbrev pub invariant-loop-t : goal.invariant-loop-t
invariant-loop-t l = (k : ℕ) (row other : TaskRow) → k < l.t → slice_get l.a k ≡ Some row → slice_get l.b k ≡ Some other → RowsMatch row other
