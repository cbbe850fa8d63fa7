use Rattle.std.proofs.Common.{◌≡◌, drop}
use Rattle.refusal_notes.specs.Spots.{next_word}
use Rattle.refusal_notes.proofs.spots.next_word.Given as goal

-- what is found in all of them is found from here on
abbrev pub invariant-loop-spot : goal.invariant-loop-spot
invariant-loop-spot l = next_word l.word (drop l.spot-index l.spots) ≡ next_word l.word l.spots
