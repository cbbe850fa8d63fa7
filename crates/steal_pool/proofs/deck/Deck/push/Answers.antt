use Rattle.std.proofs.lemmas.Result.{on_ok_weaker}
use Rattle.steal_pool.proofs.EndsLemmas.{pushes_own}
use Rattle.steal_pool.proofs.deck.Deck.push.Goals as goal

pub returns-clause-ok : goal.returns-clause-ok
returns-clause-ok c =
    let self = c.self.inside in
    on_ok_weaker c.push.result (pushes_own self.number self.own c.push.new.self self.others.items c.self.invariant _ _ c.self.view_is c.push.ensures.deck) c.push.ensures.ok
