-- Each node has one element more than its parent, and the root has none.
use Rattle.std.proofs.Common.{◌≡◌, ◌∙◌, ◌+◌, ◌∷◌, [], ℕ, length, length-append, refl, ap, arith}
use Rattle.prefix_tree.specs.Nodes.{path_of}
use Rattle.tree_admit.proofs.ways.reach.left_below.Goals as goal

pub loop-above-init : goal.loop-above-init
loop-above-init c = record { there = c.requires; higher = omega arith; left = omega arith }

pub loop-above-preserved : goal.loop-above-preserved
loop-above-preserved c =
    let nodes = c.args.shape.now in
    let loop = c.loop-above in
    let parent = c.in-Some.ensures.parent in
    let longer : length (path_of nodes loop.at) ≡ length (path_of nodes c.in-Some.above) + 1 = ap length parent.2.1 ∙ length-append (path_of nodes c.in-Some.above) (parent.2.0 ∷ []) in
    let higher = loop.invariant.higher in
    let left = loop.invariant.left in
    record { there = parent.0; higher = omega (arith, longer, higher); left = omega (arith, longer, higher, left) }

pub returns : goal.returns
returns c =
    let nodes = c.args.shape.now in
    let loop = c.loop-above in
    let tree = c.nodes-count.ensures.tree in
    let at_root = c.in_default.ensures.root.0 refl in
    let none : length (path_of nodes loop.at) ≡ 0 = ap (λ (m : ℕ). length (path_of nodes m)) at_root ∙ ap length tree.root in
    let left = loop.invariant.left in
    omega (arith, none, left)
