use Rattle.std.proofs.Common.{List}
use Rattle.machine_state.specs.declared.state.TaskRow.{TaskRow}
use Rattle.held_span.specs.Freed.{RunEntry}
use Rattle.held_span.specs.inner.Told.{HoldsBelow, IsTold}
use Rattle.held_span.proofs.holds.holds_of.Given as goal

-- the holds of the entries up to here are there
abbrev pub invariant-loop-number : goal.invariant-loop-number
invariant-loop-number l =
    (rows : List TaskRow) (stages : List RunEntry) → IsTold rows stages l.journal l.notes l.times → HoldsBelow rows stages l.times.starts l.times.ends l.number l.holds
