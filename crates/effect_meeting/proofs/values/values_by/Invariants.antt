use Rattle.std.proofs.Common.{◌≡◌}
use Rattle.effect_meeting.specs.Solutions.{first_by}
use Rattle.effect_meeting.specs.Values.{values_in}
use Rattle.effect_meeting.proofs.values.values_by.Given as goal

-- so far those of the parameters below this number
abbrev pub invariant-loop-param : goal.invariant-loop-param
invariant-loop-param l = l.values ≡ values_in l.param l.first l.second (first_by l.steps)
