use Rattle.std.proofs.Common.{ap, ◌∙◌}
use Rattle.steal_pool.specs.Hand.{guest_of}
use Rattle.steal_pool.proofs.MakingLemmas.{meets}
use Rattle.steal_pool.proofs.deck.Deck.meet.Goals as goal

pub returns-clause-met : goal.returns-clause-met
returns-clause-met c =
    let self = c.self.inside in
    let theirs = c.in_ok-theirs.ensures.other in
    meets self.number self.own c.share-2.new.self self.others.items c.push.new.self.items c.in_ok-theirs.theirs _ _ _ c.self.invariant.0 c.self.view_is c.in_ok-push.ensures.items theirs.0 (theirs.1 ∙ ap guest_of c.requires) c.in_ok-mine.ensures.deck c.in_ok-mine.ensures.ok
