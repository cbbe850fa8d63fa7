use Rattle.std.proofs.Common.{◌≡◌, ◌∷◌, [], ◌++◌, List, get_or, take, sym, ap, ◌∙◌, subst}
use Rattle.std.proofs.lemmas.List.{take_more}
use Rattle.effect_sets.specs.declared.effects.Effect.{Effect}
use Rattle.summary_comparing.specs.declared.bodies.BodySteps.{BodySteps}
use Rattle.summary_comparing.specs.Chained.{AreEach, IsNeedChain}
use Rattle.summary_comparing.specs.inner.Differing.{HasEach}
use Rattle.summary_comparing.proofs.Chained.{each-more}
use Rattle.summary_comparing.proofs.chain.chains_of.Goals as goal

-- one effect more
pub loop-effect-preserved : goal.loop-effect-preserved
loop-effect-preserved c =
    let R = IsNeedChain c.args.p.now c.args.summaries.now c.args.decl.now in
    let effects = c.args.effects.now in
    let i = c.loop-effect.effect-index in
    let effect = c.effect-item.result in
    let front = take i effects in
    let is : effect ≡ get_or effects i effect = c.effect-item.is in
    let more = take_more effects i effect c.loop-effect-test.true ∙ ap (λ (e : Effect). front ++ e ∷ []) (sym is) in
    subst (λ (es : List Effect). AreEach R es c.push.new.self) (sym more)
    (subst (AreEach R (front ++ effect ∷ [])) (sym c.in_ok-push.ensures.ok)
    (each-more R front c.loop-effect.chains effect c.in_ok-chain.chain c.loop-effect.invariant c.in_ok-chain.ensures))

-- the body needs it
pub need_chain-requires-clause-needed : goal.need_chain-requires-clause-needed
need_chain-requires-clause-needed c =
    c.requires.needed c.effect-item.result (c.loop-effect.effect-index, c.loop-effect-test.true, sym c.effect-item.is)

-- its steps and their places
pub need_chain-requires-clause-steps : goal.need_chain-requires-clause-steps
need_chain-requires-clause-steps c = c.as_slice-steps.ensures ∙ ap (λ (b : BodySteps). b.steps) c.in_ok-body.ensures

pub need_chain-requires-clause-its : goal.need_chain-requires-clause-its
need_chain-requires-clause-its c = c.as_slice-places.ensures ∙ ap (λ (b : BodySteps). b.places) c.in_ok-body.ensures

-- each step has a number
pub need_chain-requires-clause-each : goal.need_chain-requires-clause-each
need_chain-requires-clause-each c =
    subst (HasEach c.as_slice-steps.result.now) (sym c.as_slice-numbers.ensures) c.in_ok-numbers.ensures
