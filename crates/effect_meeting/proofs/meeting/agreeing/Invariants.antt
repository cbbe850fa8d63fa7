use Rattle.std.proofs.Common.{◌↔◌, IsTrue}
use Rattle.region_paths.specs.Filled.{Valuation}
use Rattle.effect_meeting.specs.Equalities.{equalities_hold}
use Rattle.effect_meeting.specs.Meeting.{AgreeBelow}
use Rattle.effect_meeting.proofs.meeting.agreeing.Given as goal

-- so far they say that the variables below this number have the same values
abbrev pub invariant-loop-number : goal.invariant-loop-number
invariant-loop-number l = (v w : Valuation) → IsTrue (equalities_hold v w l.list) ↔ AgreeBelow l.number v w
