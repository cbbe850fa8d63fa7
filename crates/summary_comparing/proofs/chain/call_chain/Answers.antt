use Rattle.std.proofs.Common.{◌≡◌, ◌∷◌, List, sym, ap, ◌∙◌, subst}
use Rattle.std.proofs.lemmas.Result.{IfOk-weaker}
use Rattle.twe_base.specs.declared.place.Place.{Place}
use Rattle.summary_comparing.specs.Chained.{IsCallChain, chain_to_access}
use Rattle.effect_infer.specs.declared.needs.need.Need.{Need}
use Rattle.effect_infer.specs.needs.Needs.{effect_of}
use Rattle.summary_comparing.specs.Chains.{IsShortestChain}
use Rattle.summary_comparing.proofs.Compared.{when-none, when-some}
use Rattle.summary_comparing.proofs.chain.call_chain.Goals as goal

-- the method only declares it
pub returns-in-None : goal.returns-in-None
returns-in-None c =
    let p = c.args.p.now in
    let its = c.args.its.now in
    IfOk-weaker c.single_chain.result _ (IsCallChain p c.args.method its c.args.place)
    (λ chain is. subst (IsCallChain p c.args.method its c.args.place) (sym is)
    (IsCallChain.declared (when-none _ c.in_ok-found.found c.in-None.is c.in_ok-found.ensures.none)))
    c.single_chain.ensures

-- the method needs it
pub returns-in-Some : goal.returns-in-Some
returns-in-Some c =
    let p = c.args.p.now in
    let its = c.args.its.now in
    let some = when-some (λ (places : List Place). (need : Need) × (its ≡ effect_of need) × IsShortestChain p c.args.method need places)
    c.in_ok-found.found c.in-Some.places c.in-Some.is c.in_ok-found.ensures.some in
    IfOk-weaker c.access_chain.result _ (IsCallChain p c.args.method its c.args.place)
    (λ chain is. subst (IsCallChain p c.args.method its c.args.place)
    (sym (is ∙ ap (λ (ps : List Place). chain_to_access (c.args.place ∷ ps)) c.as_slice.ensures))
    (IsCallChain.needed some.0 c.in-Some.places some.1 some.2))
    c.access_chain.ensures
