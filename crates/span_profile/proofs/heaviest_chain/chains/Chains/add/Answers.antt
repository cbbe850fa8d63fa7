use Rattle.std.proofs.Common.{◌≡◌, ◌+◌, [], ◌∷◌, ◌++◌, refl, ap, sym, ◌∙◌, subst, arith}
use Rattle.std.specs.List.{list_any}
use Rattle.span_profile.specs.declared.heaviest_chain.top.Best.{Best}
use Rattle.span_profile.specs.heaviest_chain.BestChains.{BestChains, key_eq}
use Rattle.span_profile.specs.heaviest_chain.Built.{FrontHolds}
use Rattle.span_profile.specs.heaviest_chain.Nodes.{Node}
use Rattle.span_profile.specs.heaviest_chain.inner.Fronts.{front_after, givers_in}
use Rattle.span_profile.specs.heaviest_chain.inner.Tops.{best_after}
use Rattle.span_profile.proofs.heaviest_chain.Adding.{added, asked_within}
use Rattle.span_profile.proofs.heaviest_chain.Givers.{giver_is, highest_is}
use Rattle.span_profile.proofs.heaviest_chain.chains.Chains.add.Goals as goal

-- the weight of the new chain fits
pub best_after-best-requires : goal.best_after-best-requires
best_after-best-requires c =
    let before : BestChains = record { work = c.self.inside.work; bests = c.self.inside.bests; givers = givers_in c.self.inside.fronts } in
    let room = c.requires.room in
    let holds : FrontHolds room.0 before = subst (FrontHolds room.0) (sym c.self.view_is) room.1 in
    let most = asked_within room.0 before holds c.args.asks.now c.highest.result (c.highest.ensures ∙ highest_is c.self.inside.fronts c.args.asks.now) in
    omega (arith, most, holds.work, room.2)

pub returns : goal.returns
returns c = λ nodes h.
    let before : BestChains = record { work = c.self.inside.work; bests = c.self.inside.bests; givers = givers_in c.self.inside.fronts } in
    let node : Node = record { weight = c.args.weight; asks = c.args.asks.now; gives = c.args.gives.now } in
    let after : BestChains = record { work = before.work + c.args.weight; bests = c.push.new.self; givers = givers_in c.give_all.new.self } in
    let best : c.best_after-best.result ≡ best_after c.highest.result c.args.weight = c.best_after-best.ensures in
    let number = c.len-node.ensures in
    added nodes node before after (subst (FrontHolds nodes) (sym c.self.view_is) h) c.highest.result (record {
      some = c.requires.some;
      top_is = c.highest.ensures ∙ highest_is c.self.inside.fronts c.args.asks.now;
      work = refl;
      bests = c.in_ok-push.ensures.ok ∙ ap (λ (b : Best). before.bests ++ b ∷ []) best;
      givers = λ key.
          giver_is c.give_all.new.self key
          ∙ (c.in_ok-give_all.ensures key
          ∙ (λ i. front_after (list_any (key_eq key) node.gives) (sym (giver_is c.self.inside.fronts key) i) (record { weight = (best i).weight; node = number i })));
    })
