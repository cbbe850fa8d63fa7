use Rattle.std.proofs.Common.{arith}
use Rattle.steal_pool.proofs.EndsLemmas.{pops, steals, steals_none, end_there}
use Rattle.steal_pool.proofs.deck.Deck.steal.Goals as goal

pub returns-then-from-self-clause-some : goal.returns-then-from-self-clause-some
returns-then-from-self-clause-some g c =
    let self = c.self.inside in
    pops self.number self.own c.pop.new.self self.others.items c.self.invariant _ _ c.pop.result c.self.view_is c.if-from-self.true c.pop.ensures.deck c.pop.ensures.some

pub index_mut-requires : goal.index_mut-requires
index_mut-requires g c =
    let self = c.self.inside in
    omega (arith, self.others.ok.0, end_there self.number self.own self.others.items _ c.args.from c.place_of-place.result c.self.invariant c.self.view_is c.requires c.place_of-place.ensures)

pub returns-clause-some : goal.returns-clause-some
returns-clause-some g c =
    let self = c.self.inside in
    let there = end_there self.number self.own self.others.items _ c.args.from c.place_of-place.result c.self.invariant c.self.view_is c.requires c.place_of-place.ensures in
    steals self.number self.own self.others.items c.self.invariant c.args.from c.place_of-place.result c.place_of-place.ensures there c.index_mut.result.now c.steal.new.self c.index_mut.ensures.value c.steal.ensures.deck _ c.steal.result c.self.view_is c.steal.ensures.some

pub returns-clause-none : goal.returns-clause-none
returns-clause-none g c =
    let self = c.self.inside in
    let there = end_there self.number self.own self.others.items _ c.args.from c.place_of-place.result c.self.invariant c.self.view_is c.requires c.place_of-place.ensures in
    steals_none self.number self.own self.others.items c.self.invariant c.args.from c.place_of-place.result c.place_of-place.ensures there c.index_mut.result.now c.steal.new.self c.index_mut.ensures.value c.steal.ensures.deck _ c.steal.result c.self.view_is c.steal.ensures.none
