-- No child is in a list without numbers.
use Rattle.std.proofs.Common.{length, arith}
use Rattle.std.proofs.lemmas.Bool.{ltb-false}
use Rattle.tree_admit.proofs.ways.reach.has_children.Goals as goal

pub returns : goal.returns
returns c none m lies =
    let there = (c.below.ensures.each m).1 lies in
    let within = there.1 in
    let empty = ltb-false 0 (length c.below.result.now) none in
    omega (arith, within, empty)
