use Rattle.std.proofs.Common.{◌≡◌, drop}
use Rattle.effect_meeting.specs.Solving.{after_steps}
use Rattle.effect_meeting.proofs.solve.after_steps.Given as goal

-- what is left of the steps leads from here to the end
abbrev pub invariant-loop-step : goal.invariant-loop-step
invariant-loop-step l = after_steps (drop l.step-index l.steps) l.now ≡ after_steps l.steps l.fn.term
