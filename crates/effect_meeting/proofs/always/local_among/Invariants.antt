use Rattle.std.proofs.Common.{◌≡◌, drop}
use Rattle.effect_meeting.specs.Always.{local_among}
use Rattle.effect_meeting.proofs.always.local_among.Given as goal

-- what is left decides
abbrev pub invariant-loop-equality : goal.invariant-loop-equality
invariant-loop-equality l = local_among l.shared (drop l.equality-index l.equalities) ≡ local_among l.shared l.equalities
