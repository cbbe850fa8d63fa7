-- One queue of the node has the task, and the other stays.
use Rattle.std.proofs.Common.{sym, subst}
use Rattle.std.specs.Prelude.{Bool}
use Rattle.twe_machine.specs.declared.book.NodeTasks.{NodeTasks}
use Rattle.twe_machine.specs.inner.Nodes.{entries_of}
use Rattle.twe_machine.specs.Queues.{IsQueued}
use Rattle.machine_state.proofs.lists.Places.{set_same}
use Rattle.twe_machine.proofs.listing.Books.{decided_set, keep_more, keep_set, keep_trans}
use Rattle.twe_machine.proofs.book.push_at.Goals as goal

pub push-requires : goal.push-requires
push-requires c = (c.in_ok-reach.ensures.decided c.args.st.now.links c.requires c.args.at c.item_mut-node.result.now c.item_mut-node.ensures.value).0

pub push-requires-2 : goal.push-requires-2
push-requires-2 c = (c.in_ok-reach.ensures.decided c.args.st.now.links c.requires c.args.at c.item_mut-node.result.now c.item_mut-node.ensures.value).1

pub returns-then-here-clause-added : goal.returns-then-here-clause-added
returns-then-here-clause-added c =
    let now : NodeTasks = record { here = c.push.new.self; below = c.item_mut-node.result.now.below } in
    record {
      node = now;
      at = set_same c.reach.new.nodes c.args.at c.item_mut-node.result.now now c.item_mut-node.ensures.value;
      has = subst (λ (b : Bool). IsQueued (entries_of b now) c.args.t) (sym c.if-here.true) c.in_ok-push.ensures.added;
    }

pub returns-then-here-clause-kept : goal.returns-then-here-clause-kept
returns-then-here-clause-kept c =
    let st = c.args.st.now in
    let nodes = c.reach.new.nodes in
    let now : NodeTasks = record { here = c.push.new.self; below = c.item_mut-node.result.now.below } in
    keep_trans st c.args.nodes.now nodes _ (keep_more st c.args.nodes.now nodes c.in_ok-reach.ensures.kept)
    (keep_set st nodes c.args.at c.item_mut-node.result.now now c.item_mut-node.ensures.value c.in_ok-push.ensures.kept (λ s has h. h))

pub returns-then-here-clause-decided : goal.returns-then-here-clause-decided
returns-then-here-clause-decided c =
    let links = c.args.st.now.links in
    let old = c.in_ok-reach.ensures.decided links c.requires in
    let both = old c.args.at c.item_mut-node.result.now c.item_mut-node.ensures.value in
    decided_set links c.reach.new.nodes c.args.at (record { here = c.push.new.self; below = c.item_mut-node.result.now.below }) old c.in_ok-push.ensures.decided both.1

pub returns-clause-added : goal.returns-clause-added
returns-clause-added c =
    let now : NodeTasks = record { here = c.item_mut-node.result.now.here; below = c.push-2.new.self } in
    record {
      node = now;
      at = set_same c.reach.new.nodes c.args.at c.item_mut-node.result.now now c.item_mut-node.ensures.value;
      has = subst (λ (b : Bool). IsQueued (entries_of b now) c.args.t) (sym c.if-here.false) c.in_ok-push-2.ensures.added;
    }

pub returns-clause-kept : goal.returns-clause-kept
returns-clause-kept c =
    let st = c.args.st.now in
    let nodes = c.reach.new.nodes in
    let now : NodeTasks = record { here = c.item_mut-node.result.now.here; below = c.push-2.new.self } in
    keep_trans st c.args.nodes.now nodes _ (keep_more st c.args.nodes.now nodes c.in_ok-reach.ensures.kept)
    (keep_set st nodes c.args.at c.item_mut-node.result.now now c.item_mut-node.ensures.value (λ s has h. h) c.in_ok-push-2.ensures.kept)

pub returns-clause-decided : goal.returns-clause-decided
returns-clause-decided c =
    let links = c.args.st.now.links in
    let old = c.in_ok-reach.ensures.decided links c.requires in
    let both = old c.args.at c.item_mut-node.result.now c.item_mut-node.ensures.value in
    decided_set links c.reach.new.nodes c.args.at (record { here = c.item_mut-node.result.now.here; below = c.push-2.new.self }) old both.0 c.in_ok-push-2.ensures.decided
