use Rattle.std.proofs.Common.{sym, ap}
use Rattle.steal_pool.specs.DeckEnds.{DeckEnds}
use Rattle.steal_pool.proofs.EndsLemmas.{pops}
use Rattle.steal_pool.proofs.deck.Deck.pop.Goals as goal

pub returns-clause-some : goal.returns-clause-some
returns-clause-some c =
    let self = c.self.inside in
    pops self.number self.own c.pop.new.self self.others.items c.self.invariant _ _ c.pop.result c.self.view_is (ap (λ (e : DeckEnds). e.number) (sym c.self.view_is)) c.pop.ensures.deck c.pop.ensures.some
