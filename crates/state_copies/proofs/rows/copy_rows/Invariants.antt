use Rattle.std.proofs.Common.{◌≡◌, map, take}
use Rattle.state_copies.specs.inner.Rows.{unreserved_row}
use Rattle.state_copies.proofs.rows.copy_rows.Given as goal

abbrev pub invariant-loop-row : goal.invariant-loop-row
invariant-loop-row l = l.copy ≡ map unreserved_row (take l.row-index l.rows)
