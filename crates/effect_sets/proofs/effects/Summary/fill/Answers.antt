use Rattle.std.proofs.Common.{◌≡◌, List, map, ap, ◌∙◌, arith}
use Rattle.std.proofs.lemmas.Grind.{common_steps}
use Rattle.effect_sets.specs.declared.effects.Effect.{Effect}
use Rattle.effect_sets.specs.declared.effects.Summary.{Summary}
use Rattle.effect_sets.specs.Filled.{fill_effect, all_filled}
use Rattle.effect_sets.proofs.Filling.{all_filled-fill, map-fill_effect-filled}
use Rattle.effect_sets.proofs.effects.Summary.fill.Goals as goal

pub returns-clause-complete : goal.returns-clause-complete
returns-clause-complete c = λ below plain.
    let effects : c.loop-effect.effects ≡ map (fill_effect c.args.args.now) c.args.self.now.effects = grind (arith, common_steps) in
    ap all_filled effects ∙ all_filled-fill c.args.args.now c.args.self.now.effects below plain

pub returns-clause-kept : goal.returns-clause-kept
returns-clause-kept c = λ plain.
    let effects : c.loop-effect.effects ≡ map (fill_effect c.args.args.now) c.args.self.now.effects = grind (arith, common_steps) in
    let made : List Effect → Summary = λ es. record { effects = es } in
    ap made (effects ∙ map-fill_effect-filled c.args.args.now c.args.self.now.effects plain)
