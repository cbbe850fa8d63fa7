use Rattle.std.proofs.Common.{◌∙◌}
use Rattle.task_floor.proofs.GoingOn.{looked_phase}
use Rattle.task_floor.proofs.ServedBeside.{holds_taken}
use Rattle.tree_admit.proofs.serving.Serving.{looked_held}
use Rattle.library_tests.proofs.admitting.bar_of.Goals as goal

-- the worker has the task in hand, and has found that it waits for its admission
pub bar_of_taken-requires-clause-holds : goal.bar_of_taken-requires-clause-holds
bar_of_taken-requires-clause-holds g c =
    let nodes = g.N.Planted.nodes in
    let lim = g.N.Named.lim in
    let t = c.args.task in
    let slot = c.in-Ok.slot in
    let took = c.in-Ok.ensures.taken in
    let turn = took.floor.turn in
    let a = c.take_turn.new.stand.me in
    let b = c.status.new.stand.me in
    let phase = c.status.result in
    let looks = c.status.ensures.found in
    let taken = holds_taken nodes 1 c.args.stand.me a c.args.log t slot c.requires.idle took in
    let held = looked_held nodes lim 1 a b c.args.log t slot turn phase looks taken in
    (turn, held, looked_phase nodes lim a b t phase looks turn slot.frame taken.in_hand ∙ c.in-Made.is)
