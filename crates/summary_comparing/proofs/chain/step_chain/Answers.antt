use Rattle.std.proofs.Common.{◌∷◌, [], sym, subst}
use Rattle.std.proofs.lemmas.Result.{IfOk-weaker}
use Rattle.std.specs.List.{Contains}
use Rattle.effect_infer.specs.declared.needs.need.BodyStep.{BodyStep}
use Rattle.summary_comparing.specs.Needed.{said_needs}
use Rattle.summary_comparing.specs.Chained.{IsStepChain, chain_to_access}
use Rattle.summary_comparing.proofs.Chained.{touch-chain}
use Rattle.summary_comparing.proofs.chain.step_chain.Goals as goal

-- an access
pub returns-in-Touch : goal.returns-in-Touch
returns-in-Touch c =
    let p = c.args.p.now in
    let summaries = c.args.summaries.now in
    let effect = c.args.effect.now in
    let there = subst (λ (s : BodyStep). Contains (said_needs summaries c.args.params s) effect) c.in-Touch.is c.requires.there in
    let chain = touch-chain p summaries c.args.params effect c.args.place c.in-Touch.field-0 there in
    IfOk-weaker c.single_chain.result _ (IsStepChain p summaries c.args.params effect c.args.place c.args.step.now)
    (λ made is. subst (IsStepChain p summaries c.args.params effect c.args.place c.args.step.now) (sym is)
    (subst (λ (s : BodyStep). IsStepChain p summaries c.args.params effect c.args.place s (chain_to_access (c.args.place ∷ []))) (sym c.in-Touch.is) chain))
    c.single_chain.ensures
