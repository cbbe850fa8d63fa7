use Rattle.std.proofs.Common.{◌≡◌, ◌+◌, drop}
use Rattle.summary_comparing.specs.EffectOrder.{place_among}
use Rattle.summary_comparing.proofs.effect_order.place_among.Given as goal

-- the place among what is left, and those before it
abbrev pub invariant-loop-at : goal.invariant-loop-at
invariant-loop-at l = l.at + place_among (drop l.at l.effects) l.effect ≡ place_among l.effects l.effect
