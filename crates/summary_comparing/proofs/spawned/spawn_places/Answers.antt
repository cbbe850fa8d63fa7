use Rattle.std.proofs.Common.{◌≡◌, ◌∷◌, [], ◌++◌, List, get_or, take, sym, ap, ◌∙◌, subst}
use Rattle.std.proofs.lemmas.List.{take_more}
use Rattle.effect_sets.specs.declared.effects.Effect.{Effect}
use Rattle.summary_comparing.specs.Chained.{AreEach, IsSpawnPlace}
use Rattle.summary_comparing.proofs.Chained.{each-more}
use Rattle.summary_comparing.proofs.spawned.spawn_places.Goals as goal

-- one effect more
pub loop-effect-preserved : goal.loop-effect-preserved
loop-effect-preserved c =
    let R = IsSpawnPlace c.args.p.now c.args.decl.now in
    let effects = c.args.effects.now in
    let i = c.loop-effect.effect-index in
    let effect = c.effect-item.result in
    let front = take i effects in
    let is : effect ≡ get_or effects i effect = c.effect-item.is in
    let more = take_more effects i effect c.loop-effect-test.true ∙ ap (λ (e : Effect). front ++ e ∷ []) (sym is) in
    subst (λ (es : List Effect). AreEach R es c.push.new.self) (sym more)
    (subst (AreEach R (front ++ effect ∷ [])) (sym c.in_ok-push.ensures.ok)
    (each-more R front c.loop-effect.places effect c.in_ok-place.place c.loop-effect.invariant c.in_ok-place.ensures))

-- a child declares it
pub spawn_place-requires-clause-needed : goal.spawn_place-requires-clause-needed
spawn_place-requires-clause-needed c =
    c.requires c.effect-item.result (c.loop-effect.effect-index, c.loop-effect-test.true, sym c.effect-item.is)
