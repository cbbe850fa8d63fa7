use Rattle.std.proofs.Common.{[]}
use Rattle.task_floor.proofs.ServedBeside.{idle_left_beside, may_park_drawn}
use Rattle.tree_admit.proofs.serving.Serving.{left_part, left_same, same_stands}
use Rattle.tree_admit.proofs.serving.workshop.Workshop.park.Goals as goal

pub invariant_of-result : goal.invariant_of-result
invariant_of-result g c =
    let h = c.args.holding in
    let holds = c.requires.holds in
    let nodes = g.N.Planted.nodes in
    idle_left_beside nodes h.number h.stand.me h.log h.task h.slot holds.0 holds.1 c.park.new.stand.me
    (c.park.ensures.left holds.0 [] (may_park_drawn nodes h.number h.stand.me h.log h.task h.slot holds.0 holds.1 holds.2))

pub returns-clause-part : goal.returns-clause-part
returns-clause-part g c =
    let h = c.args.holding in
    let holds = c.requires.holds in
    left_part h.stand.me c.park.new.stand.me h.task holds.0 []
    (c.park.ensures.left holds.0 [] (may_park_drawn g.N.Planted.nodes h.number h.stand.me h.log h.task h.slot holds.0 holds.1 holds.2))

pub returns-clause-same : goal.returns-clause-same
returns-clause-same g c =
    let h = c.args.holding in
    let holds = c.requires.holds in
    same_stands h.stand c.park.new.stand c.park.ensures.same.0 c.park.ensures.same.1
    (left_same h.stand.me c.park.new.stand.me h.task holds.0 []
    (c.park.ensures.left holds.0 [] (may_park_drawn g.N.Planted.nodes h.number h.stand.me h.log h.task h.slot holds.0 holds.1 holds.2)))
