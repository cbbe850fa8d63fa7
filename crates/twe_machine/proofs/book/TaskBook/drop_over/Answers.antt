use Rattle.twe_machine.proofs.listing.Books.{stands_nodes}
use Rattle.twe_machine.proofs.book.TaskBook.drop_over.Goals as goal

pub loop-elem-preserved : goal.loop-elem-preserved
loop-elem-preserved c = record {
  kept = λ s front has h. stands_nodes c.args.st.now c.loop-elem.self c.drop_at.new.nodes c.drop_at.ensures.kept front s has (c.loop-elem.invariant.kept s front has h);
  decided = λ old. c.drop_at.ensures.decided (c.loop-elem.invariant.decided old);
}

pub returns-in_default-clause-kept : goal.returns-in_default-clause-kept
returns-in_default-clause-kept c = λ s front has h.
    stands_nodes c.args.st.now c.loop-elem.self c.drop_at.new.nodes c.drop_at.ensures.kept front s has (c.loop-elem.invariant.kept s front has h)

pub returns-in_default-clause-decided : goal.returns-in_default-clause-decided
returns-in_default-clause-decided c = λ old. c.drop_at.ensures.decided (c.loop-elem.invariant.decided old)

pub returns-clause-kept : goal.returns-clause-kept
returns-clause-kept c = λ s front has h.
    stands_nodes c.args.st.now c.loop-elem.self c.drop_at-2.new.nodes c.drop_at-2.ensures.kept front s has (c.loop-elem.invariant.kept s front has h)

pub returns-clause-decided : goal.returns-clause-decided
returns-clause-decided c = λ old. c.drop_at-2.ensures.decided (c.loop-elem.invariant.decided old)
