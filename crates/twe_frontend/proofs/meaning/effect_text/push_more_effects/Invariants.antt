use Rattle.std.proofs.Common.{◌≡◌, ◌++◌, drop}
use Rattle.twe_frontend.specs.meaning.EffectTexts.{more_effects}
use Rattle.twe_frontend.proofs.meaning.effect_text.push_more_effects.Given as goal

-- the text so far, with what is left
abbrev pub invariant-loop-effect : goal.invariant-loop-effect
invariant-loop-effect l =
    l.text ++ more_effects l.regions l.variables (drop l.effect-index l.effects)
    ≡ l.fn.text ++ more_effects l.regions l.variables l.effects
