use Rattle.std.proofs.Common.{arith, ◌∙◌}
use Rattle.steal_pool.proofs.MakingLemmas.{met_more, ends_more, shared_more}
use Rattle.steal_pool.proofs.decks.meet_all.Goals as goal

pub loop-deck-preserved : goal.loop-deck-preserved
loop-deck-preserved c =
    let own = c.args.own.now in
    let loop = c.loop-deck in
    let kept = loop.invariant in
    let meet = c.in_ok-other.ensures in
    record {
      decks = met_more own c.args.decks.now loop.decks loop.deck-index c.deck-item.result (omega arith) c.requires kept.decks c.deck-item.is _ _ kept.same meet.met;
      others = ends_more own c.args.decks.now loop.decks loop.deck-index c.deck-item.result (omega arith) c.requires kept.decks c.deck-item.is loop.others.items c.push.new.self.items c.in_ok-other.other kept.others c.in_ok-push.ensures.items meet.end;
      same = meet.own ∙ kept.same;
      shared = shared_more own.hand loop.own.hand c.meet.new.own.hand loop.deck-index kept.shared meet.shared;
    }
