use Rattle.std.proofs.Common.{◌≡◌, ◌≤◌, List, Some, length, refl, ap, ◌∙◌, subst, arith}
use Rattle.std.specs.Prelude.{slice_get}
use Rattle.std.proofs.lemmas.Option.{slice_get_read}
use Rattle.std.proofs.lemmas.Result.{IfOk-weaker}
use Rattle.effect_sets.specs.declared.effects.Effect.{Effect}
use Rattle.effect_infer.specs.declared.needs.need.BodyStep.TheVariants.{Call}
use Rattle.summary_comparing.specs.Chained.{IsStepChain}
use Rattle.summary_comparing.specs.inner.Sources.{effects_before}
use Rattle.summary_comparing.proofs.Chained.{call-chain, effect-within}
use Rattle.summary_comparing.proofs.chain.summary_chain.Goals as goal

-- the effect is in the summary
pub returns-in-None : goal.returns-in-None
returns-in-None c =
    let args = c.args.args.now in
    let its = c.args.summary.now in
    let effect = c.args.effect.now in
    let at = c.effects_before-at.result in
    let is : at ≡ effects_before c.args.params args its.effects effect =
    c.effects_before-at.ensures ∙ ap (λ (es : List Effect). effects_before c.args.params args es effect) c.as_slice-effects.ensures in
    let within = effect-within c.args.params args its effect c.requires.there at is in
    let past : length its.effects ≤ at = subst (λ (es : List Effect). length es ≤ at) c.as_slice-effects.ensures c.in-None.ensures.lookup.3 in
    absurd (omega (arith, within, past))

-- and a chain leads from the call to it
pub returns-in-Some : goal.returns-in-Some
returns-in-Some c =
    let p = c.args.p.now in
    let summaries = c.args.summaries.now in
    let args = c.args.args.now in
    let its = c.args.summary.now in
    let effect = c.args.effect.now in
    let at = c.effects_before-at.result in
    let is : at ≡ effects_before c.args.params args its.effects effect =
    c.effects_before-at.ensures ∙ ap (λ (es : List Effect). effects_before c.args.params args es effect) c.as_slice-effects.ensures in
    let look = c.in-Some.ensures.lookup in
    let effects = c.as_slice-effects.result.now in
    let found = subst (λ (es : List Effect). slice_get es at ≡ Some c.in-Some.its.now) c.as_slice-effects.ensures
    (slice_get_read effects (length effects) at c.in-Some.its.now refl look.3.0 look.1) in
    IfOk-weaker c.call_chain.result _ (IsStepChain p summaries c.args.params effect c.args.place (Call c.args.method args))
    (λ chain leads. call-chain c.args.params args its effect c.requires.there p summaries c.args.method c.args.place at c.in-Some.its.now
    chain c.requires.its is found leads)
    c.call_chain.ensures
