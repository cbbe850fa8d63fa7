use Rattle.std.proofs.Common.{[]}
use Rattle.task_floor.proofs.ServedBeside.{idle_given_beside, may_give_held_beside}
use Rattle.tree_admit.proofs.serving.Serving.{gave_knows, gave_part, gave_same, gave_turns, same_stands}
use Rattle.tree_admit.proofs.serving.workshop.Workshop.give_back.Goals as goal

pub invariant_of-result : goal.invariant_of-result
invariant_of-result g c =
    let h = c.args.holding in
    let holds = c.requires.holds in
    let nodes = g.N.Planted.nodes in
    idle_given_beside nodes h.number h.stand.me h.log h.task h.slot holds.0 holds.1 c.give_turn.new.stand.me
    (c.give_turn.ensures.gave holds.0 [] (may_give_held_beside nodes h.number h.stand.me h.log h.task h.slot holds.0 holds.1))

pub returns-clause-part : goal.returns-clause-part
returns-clause-part g c =
    let h = c.args.holding in
    let holds = c.requires.holds in
    gave_part h.stand.me c.give_turn.new.stand.me h.task holds.0 []
    (c.give_turn.ensures.gave holds.0 [] (may_give_held_beside g.N.Planted.nodes h.number h.stand.me h.log h.task h.slot holds.0 holds.1))

pub returns-clause-knows : goal.returns-clause-knows
returns-clause-knows g c =
    let h = c.args.holding in
    let holds = c.requires.holds in
    gave_knows h.stand.me c.give_turn.new.stand.me h.task holds.0 []
    (c.give_turn.ensures.gave holds.0 [] (may_give_held_beside g.N.Planted.nodes h.number h.stand.me h.log h.task h.slot holds.0 holds.1))

pub returns-clause-turns : goal.returns-clause-turns
returns-clause-turns g c =
    let h = c.args.holding in
    let holds = c.requires.holds in
    gave_turns h.stand.me c.give_turn.new.stand.me h.task holds.0 []
    (c.give_turn.ensures.gave holds.0 [] (may_give_held_beside g.N.Planted.nodes h.number h.stand.me h.log h.task h.slot holds.0 holds.1))

pub returns-clause-same : goal.returns-clause-same
returns-clause-same g c =
    let h = c.args.holding in
    let holds = c.requires.holds in
    same_stands h.stand c.give_turn.new.stand c.give_turn.ensures.same.0 c.give_turn.ensures.same.1
    (gave_same h.stand.me c.give_turn.new.stand.me h.task holds.0 []
    (c.give_turn.ensures.gave holds.0 [] (may_give_held_beside g.N.Planted.nodes h.number h.stand.me h.log h.task h.slot holds.0 holds.1)))
