use Rattle.std.proofs.Common.{◌≡◌, [], drop}
use Rattle.effect_meeting.specs.Solving.{steps_after}
use Rattle.effect_meeting.proofs.solve.steps_for.Given as goal

-- what is left decides
abbrev pub invariant-loop-equality : goal.invariant-loop-equality
invariant-loop-equality l = steps_after l.steps (drop l.equality-index l.equalities) ≡ steps_after [] l.equalities
