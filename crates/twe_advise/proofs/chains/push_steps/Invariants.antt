use Rattle.std.proofs.Common.{◌≡◌, ◌++◌, drop}
use Rattle.twe_advise.specs.Chains.{step_lines}
use Rattle.twe_advise.proofs.chains.push_steps.Given as goal

-- what is written, and what is left, are all
abbrev pub invariant-loop-step : goal.invariant-loop-step
invariant-loop-step l = l.text ++ step_lines l.p l.tasks l.starts l.before (drop l.step-index l.steps) ≡ l.fn.text ++ step_lines l.p l.tasks l.starts 0 l.steps
