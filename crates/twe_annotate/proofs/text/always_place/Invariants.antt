use Rattle.std.proofs.Common.{◌≡◌, ◌+◌, drop}
use Rattle.twe_annotate.specs.Texts.{always_place}
use Rattle.twe_annotate.proofs.text.always_place.Given as goal

-- it is not among those so far
abbrev pub invariant-loop-at : goal.invariant-loop-at
invariant-loop-at l = l.at + always_place (drop l.at l.meetings) ≡ always_place l.meetings
