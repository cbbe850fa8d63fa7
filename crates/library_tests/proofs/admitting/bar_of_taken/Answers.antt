use Rattle.std.proofs.Common.{Ok, [], ap, refl}
use Rattle.tree_admit.specs.declared.admitting.Admittance.{Admittance}
use Rattle.task_floor.proofs.ServedBeside.{idle_given_beside, may_give_held_beside}
use Rattle.tree_admit.proofs.serving.Serving.{held_tried, is_made}
use Rattle.library_tests.proofs.admitting.bar_of_taken.Goals as goal

-- the worker has nothing in hand once it has given the turn
pub new-requires : goal.new-requires
new-requires g c =
    let nodes = g.N.Planted.nodes in
    let t = c.args.task in
    let slot = c.args.slot in
    let log = c.args.log in
    let holds = c.requires.holds in
    let turn = holds.0 in
    let a = c.args.stand.me in
    let b = c.try_admit.new.stand.me in
    let barred = c.in_ok-try_admit.ensures.held c.in-Held.bar (ap (λ (x : Admittance). Ok x) c.in-Held.is) in
    let still = held_tried nodes 1 a b log log t slot turn holds.1 refl c.in_ok-try_admit.ensures.keeps (is_made turn.row holds.2) barred.0 in
    let gave = c.give_turn.ensures.gave turn [] (may_give_held_beside nodes 1 b log t slot turn still) in
    idle_given_beside nodes 1 b log t slot turn still c.give_turn.new.stand.me gave
