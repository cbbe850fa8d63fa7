use Rattle.std.proofs.Common.{◌<◌, ◌++◌, ◌∷◌, [], ℕ, sym, ap, ◌∙◌, subst}
use Rattle.effect_sets.specs.declared.effects.Effect.{Effect}
use Rattle.held_span.specs.Rivals.{EffectList, IsNumberOf}
use Rattle.held_span.specs.Tables.{IsListed}
use Rattle.held_span.proofs.Longer.{get-kept, get-last}
use Rattle.held_span.proofs.Placing.{placed-more}
use Rattle.held_span.proofs.placed.Placed.add.Goals as goal

pub put-requires : goal.put-requires
put-requires c = subst (λ (count : ℕ). c.args.place < count) (sym c.requires.placed.nodes) c.requires.there

pub returns-clause-placed : goal.returns-clause-placed
returns-clause-placed c =
    let old = c.args.self.now in
    let effect = c.args.effect.now in
    let grown = c.in_ok-push.ensures.ok ∙ ap (λ (e : Effect). old.effects ++ e ∷ []) c.in_ok-copy.ensures in
    placed-more old c.args.place effect c.put.new.lists c.push.new.self c.push-2.new.self c.requires.placed grown c.in_ok-push-2.ensures.ok c.requires.filled c.requires.there c.requires.place
    c.requires.room c.in_ok-put.ensures.count
    (subst (λ (number : ℕ). IsListed c.put.new.lists c.args.place number) c.len-number.ensures c.in_ok-put.ensures.added) c.in_ok-put.ensures.kept

pub returns-clause-number : goal.returns-clause-number
returns-clause-number c =
    let old = c.args.self.now in
    let effect = c.args.effect.now in
    let grown = c.in_ok-push.ensures.ok ∙ ap (λ (e : Effect). old.effects ++ e ∷ []) c.in_ok-copy.ensures in
    subst (λ (effects : EffectList). IsNumberOf effects c.len-number.result effect) (sym grown)
    (subst (λ (number : ℕ). IsNumberOf (old.effects ++ effect ∷ []) number effect) (sym c.len-number.ensures) (get-last old.effects effect))

pub returns-clause-kept : goal.returns-clause-kept
returns-clause-kept c = λ n other h.
    let old = c.args.self.now in
    let effect = c.args.effect.now in
    let grown = c.in_ok-push.ensures.ok ∙ ap (λ (e : Effect). old.effects ++ e ∷ []) c.in_ok-copy.ensures in
    subst (λ (effects : EffectList). IsNumberOf effects n other) (sym grown) (get-kept old.effects effect n other h)
