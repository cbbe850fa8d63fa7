use Rattle.std.proofs.Common.{◌<◌, ℕ}
use Rattle.machine_state.specs.Legal.{MayRun}
use Rattle.move_choices.proofs.choosing.lowest_that_may_run.Given as goal

-- those that were looked at may not run
abbrev pub invariant-loop-t : goal.invariant-loop-t
invariant-loop-t l = (s : ℕ) → s < l.t → ¬ MayRun l.st s
