-- The two queues of the node keep their enabled tasks.
use Rattle.twe_machine.proofs.listing.Books.{decided_set, keep_set}
use Rattle.twe_machine.proofs.book.drop_at.Goals as goal

pub returns-clause-kept : goal.returns-clause-kept
returns-clause-kept c =
    keep_set c.args.st.now c.args.nodes.now c.args.at c.item_mut-node.result.now (record { here = c.drop_over.new.self; below = c.drop_over-2.new.self })
    c.item_mut-node.ensures.value c.drop_over.ensures.kept c.drop_over-2.ensures.kept

pub returns-clause-decided : goal.returns-clause-decided
returns-clause-decided c = λ old.
    let both = old c.args.at c.item_mut-node.result.now c.item_mut-node.ensures.value in
    decided_set c.args.st.now.links c.args.nodes.now c.args.at (record { here = c.drop_over.new.self; below = c.drop_over-2.new.self }) old
    (c.drop_over.ensures.decided both.0) (c.drop_over-2.ensures.decided both.1)
