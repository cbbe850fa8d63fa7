use Rattle.std.proofs.Common.{◌<◌, List, None, Some, length, sym, subst}
use Rattle.span_profile.specs.declared.heaviest_chain.top.Best.{Best}
use Rattle.span_profile.specs.heaviest_chain.BestChains.{BestChains}
use Rattle.span_profile.specs.heaviest_chain.Built.{FrontHolds}
use Rattle.span_profile.specs.heaviest_chain.Chains.{IsHeaviest}
use Rattle.span_profile.specs.heaviest_chain.Nodes.{SharesKey, weight_of}
use Rattle.span_profile.specs.heaviest_chain.inner.Fronts.{givers_in}
use Rattle.span_profile.specs.heaviest_chain.inner.Tops.{IsHighest, IsTopOf}
use Rattle.span_profile.proofs.heaviest_chain.Back.{previous_lower}
use Rattle.span_profile.proofs.heaviest_chain.Earliest.{earliest_found, last_before_found}
use Rattle.span_profile.proofs.heaviest_chain.HighestChain.{heaviest_followed, heaviest_of_none}
use Rattle.span_profile.proofs.heaviest_chain.chains.Chains.heaviest.Goals as goal

pub chain_to-requires-clause-lower : goal.chain_to-requires-clause-lower
chain_to-requires-clause-lower c =
    let chains : BestChains = record { work = c.self.inside.work; bests = c.self.inside.bests; givers = givers_in c.self.inside.fronts } in
    previous_lower c.requires.0 chains (subst (FrontHolds c.requires.0) (sym c.self.view_is) c.requires.1)

-- without nodes
pub returns-in-None-clause-heaviest : goal.returns-in-None-clause-heaviest
returns-in-None-clause-heaviest c = λ nodes h.
    let chains : BestChains = record { work = c.self.inside.work; bests = c.self.inside.bests; givers = givers_in c.self.inside.fronts } in
    let none = subst (λ (bests : List Best). IsHighest bests None) c.as_slice-all.ensures c.in-None.ensures in
    subst (IsHeaviest SharesKey weight_of nodes chains.work 0) (sym c.new.ensures) (heaviest_of_none nodes chains (subst (FrontHolds nodes) (sym c.self.view_is) h) none)

pub returns-in-None-clause-earliest : goal.returns-in-None-clause-earliest
returns-in-None-clause-earliest c = λ nodes h.
    let chains : BestChains = record { work = c.self.inside.work; bests = c.self.inside.bests; givers = givers_in c.self.inside.fronts } in
    let none = subst (λ (bests : List Best). IsHighest bests None) c.as_slice-all.ensures c.in-None.ensures in
    earliest_found nodes chains (subst (FrontHolds nodes) (sym c.self.view_is) h) None none c.as_slice-all.result.now c.in_ok-starts.starts c.in_ok-ends.ends c.as_slice-all.ensures
    c.in_ok-starts.ensures c.in_ok-ends.ensures

pub returns-in-None-clause-last : goal.returns-in-None-clause-last
returns-in-None-clause-last c = λ nodes h.
    let chains : BestChains = record { work = c.self.inside.work; bests = c.self.inside.bests; givers = givers_in c.self.inside.fronts } in
    last_before_found nodes chains (subst (FrontHolds nodes) (sym c.self.view_is) h) c.as_slice-all.result.now c.in_ok-starts.starts c.in_ok-ends.ends c.in_ok-before.before c.as_slice-all.ensures
    c.in_ok-starts.ensures c.in_ok-ends.ensures c.in_ok-before.ensures

-- and from the highest node back
pub returns-clause-heaviest : goal.returns-clause-heaviest
returns-clause-heaviest c = λ nodes h.
    let chains : BestChains = record { work = c.self.inside.work; bests = c.self.inside.bests; givers = givers_in c.self.inside.fronts } in
    let top = c.in-Some.top in
    let is : IsTopOf chains.bests (λ node. node < length chains.bests) top = subst (λ (bests : List Best). IsHighest bests (Some top)) c.as_slice-all.ensures c.in-Some.ensures in
    heaviest_followed nodes chains (subst (FrontHolds nodes) (sym c.self.view_is) h) top is c.in_ok-chain_to-in-Some.field-0 c.in_ok-chain_to-in-Some.ensures

pub returns-clause-earliest : goal.returns-clause-earliest
returns-clause-earliest c = λ nodes h.
    let chains : BestChains = record { work = c.self.inside.work; bests = c.self.inside.bests; givers = givers_in c.self.inside.fronts } in
    let top = c.in-Some.top in
    let is : IsTopOf chains.bests (λ node. node < length chains.bests) top = subst (λ (bests : List Best). IsHighest bests (Some top)) c.as_slice-all.ensures c.in-Some.ensures in
    earliest_found nodes chains (subst (FrontHolds nodes) (sym c.self.view_is) h) (Some top) is c.as_slice-all.result.now c.in_ok-starts.starts c.in_ok-ends.ends c.as_slice-all.ensures
    c.in_ok-starts.ensures c.in_ok-ends.ensures

pub returns-clause-last : goal.returns-clause-last
returns-clause-last c = λ nodes h.
    let chains : BestChains = record { work = c.self.inside.work; bests = c.self.inside.bests; givers = givers_in c.self.inside.fronts } in
    last_before_found nodes chains (subst (FrontHolds nodes) (sym c.self.view_is) h) c.as_slice-all.result.now c.in_ok-starts.starts c.in_ok-ends.ends c.in_ok-before.before c.as_slice-all.ensures
    c.in_ok-starts.ensures c.in_ok-ends.ensures c.in_ok-before.ensures
