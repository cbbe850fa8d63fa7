-- The child is locked before the node is left.
use Rattle.std.proofs.Common.{None}
use Rattle.floor_laws.specs.declared.table.nodes.slot.TreeSlot.TheVariants as kinds
use Rattle.floor_laws.specs.table.nodes.Layout.{content_place}
use Rattle.tree_admit.proofs.Stepping.{first, next, step_behind, step_came, step_leaves, step_may}
use Rattle.tree_admit.proofs.descents.step_down.Goals as goal

pub lock_child-below-requires-clause-may : goal.lock_child-below-requires-clause-may
lock_child-below-requires-clause-may g c =
    let (earlier, rest, a, count, step) = c.requires.may in
    let nodes = g.N.Planted.nodes in
    let lim = g.N.Named.lim in
    (first nodes lim earlier rest a c.args.node c.args.content c.args.child c.args.stand.now.me step, step_may nodes lim earlier rest a c.args.node c.args.content c.args.child c.args.stand.now.me step)

pub leave_parent-requires-clause-may : goal.leave_parent-requires-clause-may
leave_parent-requires-clause-may g c =
    let (earlier, rest, a, count, step) = c.requires.may in
    let nodes = g.N.Planted.nodes in
    let lim = g.N.Named.lim in
    let me = c.args.stand.now.me in
    let n = c.args.node in
    let child = c.args.child in
    let below = c.lock_child-below.result in
    let after = c.lock_child-below.new.stand.me in
    let locked = c.lock_child-below.ensures.locked (first nodes lim earlier rest a n c.args.content child me step) (step_may nodes lim earlier rest a n c.args.content child me step) in
    (next nodes lim earlier rest a n c.args.content child me step, (content_place lim child, kinds.Task None), rest, step_leaves nodes lim earlier rest a n c.args.content child me step below after locked, step_behind nodes lim earlier rest a n c.args.content child me step below after locked, count)

pub returns-clause-came : goal.returns-clause-came
returns-clause-came g c = λ earlier rest a count step.
    let nodes = g.N.Planted.nodes in
    let lim = g.N.Named.lim in
    let me = c.args.stand.now.me in
    let n = c.args.node in
    let child = c.args.child in
    let below = c.lock_child-below.result in
    let after = c.lock_child-below.new.stand.me in
    let locked = c.lock_child-below.ensures.locked (first nodes lim earlier rest a n c.args.content child me step) (step_may nodes lim earlier rest a n c.args.content child me step) in
    step_came nodes lim earlier rest a n c.args.content child me step below after locked c.leave_parent.new.stand.me
    (c.leave_parent.ensures.gave (next nodes lim earlier rest a n c.args.content child me step) (content_place lim child, kinds.Task None) rest
    (step_leaves nodes lim earlier rest a n c.args.content child me step below after locked)
    (step_behind nodes lim earlier rest a n c.args.content child me step below after locked))
