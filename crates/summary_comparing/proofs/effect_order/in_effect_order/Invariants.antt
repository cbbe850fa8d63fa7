use Rattle.std.proofs.Common.{◌≡◌, drop}
use Rattle.summary_comparing.specs.EffectOrder.{in_effect_order, with_each_placed}
use Rattle.summary_comparing.proofs.effect_order.in_effect_order.Given as goal

-- the effects so far, with those of what is left
abbrev pub invariant-loop-effect : goal.invariant-loop-effect
invariant-loop-effect l = with_each_placed l.placed.items (drop l.effect-index l.effects) ≡ in_effect_order l.effects
