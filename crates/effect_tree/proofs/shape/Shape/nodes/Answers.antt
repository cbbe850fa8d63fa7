-- There are as many paths of elements as paths of parts.
use Rattle.std.proofs.Common.{length, ap, subst, arith}
use Rattle.prefix_tree.specs.Nodes.{IsTreeOfPaths}
use Rattle.effect_tree.proofs.PartPaths.{length-elems, IsTreeOfPaths-elems}
use Rattle.effect_tree.proofs.shape.Shape.nodes.Goals as goal

pub returns-clause-count : goal.returns-clause-count
returns-clause-count c =
    let all = length-elems c.self.inside.tree in
    let seen = ap length c.self.view_is in
    omega (arith, c.len.ensures.count)

pub returns-clause-tree : goal.returns-clause-tree
returns-clause-tree c = subst IsTreeOfPaths c.self.view_is (IsTreeOfPaths-elems c.self.inside.tree c.len.ensures.tree)
