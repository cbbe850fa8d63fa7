use Rattle.std.proofs.Common.{◌≡◌, ℕ, List, length, refl, sym, ap, ◌∙◌, subst, arith}
use Rattle.std.proofs.lemmas.Option.{slice_get_read}
use Rattle.held_span.specs.Rivals.{EffectList, IsNumberOf}
use Rattle.held_span.proofs.Rivalry.{HaveRivals, at-index, rivals-complete, rivals-more, rivals-none, rivals-sound}
use Rattle.held_span.proofs.placed.Placed.all_rivals.Goals as goal

pub loop-effect-init : goal.loop-effect-init
loop-effect-init c = subst (λ (lists : List (List ℕ)). HaveRivals c.args.self.now 0 lists) (sym c.new-lists.ensures) (rivals-none c.args.self.now)

pub rivals_from-requires-clause-there : goal.rivals_from-requires-clause-there
rivals_from-requires-clause-there c =
    c.requires.there c.loop-effect.effect-index _
    (at-index c.args.self.now c.requires c.as_slice-effect-items.result.now c.as_slice-effect-items.ensures c.as_slice.result.now c.as_slice.ensures c.loop-effect.effect-index c.len.result
    c.loop-effect-test.true (c.len.ensures ∙ c.loop-effect.invariant.many))

pub loop-effect-preserved : goal.loop-effect-preserved
loop-effect-preserved c =
    let placed = c.args.self.now in
    let index = c.loop-effect.effect-index in
    let effect = c.effect-item.result in
    let effects = c.as_slice-effect-items.result.now in
    let is = subst (λ (es : EffectList). IsNumberOf es index effect) c.as_slice-effect-items.ensures (slice_get_read effects (length effects) index effect refl c.loop-effect-test.true c.effect-item.is) in
    rivals-more placed index c.loop-effect.lists c.push.new.self _ effect _ c.loop-effect.invariant c.in_ok-push.ensures.ok is
    (at-index placed c.requires effects c.as_slice-effect-items.ensures c.as_slice.result.now c.as_slice.ensures index c.len.result c.loop-effect-test.true
    (c.len.ensures ∙ c.loop-effect.invariant.many)) c.in_ok-rivals_from.ensures

pub returns-clause-as_many : goal.returns-clause-as_many
returns-clause-as_many c = let all = ap length c.as_slice-effect-items.ensures in omega (arith, all, c.loop-effect.invariant.many)

pub returns-clause-sound : goal.returns-clause-sound
returns-clause-sound c =
    let placed = c.args.self.now in
    let all : c.loop-effect.effect-index ≡ length placed.effects = omega (arith, ap length c.as_slice-effect-items.ensures) in
    rivals-sound placed c.requires c.loop-effect.lists (subst (λ (n : ℕ). HaveRivals placed n c.loop-effect.lists) all c.loop-effect.invariant)

pub returns-clause-complete : goal.returns-clause-complete
returns-clause-complete c =
    let placed = c.args.self.now in
    let all : c.loop-effect.effect-index ≡ length placed.effects = omega (arith, ap length c.as_slice-effect-items.ensures) in
    rivals-complete placed c.requires c.loop-effect.lists (subst (λ (n : ℕ). HaveRivals placed n c.loop-effect.lists) all c.loop-effect.invariant)
