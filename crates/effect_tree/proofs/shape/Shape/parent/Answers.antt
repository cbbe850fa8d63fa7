-- As in the tree of parts.
use Rattle.std.proofs.Common.{ℕ, List, length, ap, subst, arith}
use Rattle.region_paths.specs.declared.elements.Elem.{Elem}
use Rattle.prefix_tree.specs.Nodes.{IsParent}
use Rattle.effect_tree.proofs.Outcomes.{some_weaker}
use Rattle.effect_tree.proofs.PartPaths.{length-elems, parent-elems}
use Rattle.effect_tree.proofs.shape.Shape.parent.Goals as goal

pub parent-requires : goal.parent-requires
parent-requires c =
    let all = length-elems c.self.inside.tree in
    let seen = ap length c.self.view_is in
    omega (arith, c.requires)

pub returns-clause-parent : goal.returns-clause-parent
returns-clause-parent c =
    some_weaker c.parent.result _ _
    (λ (m : ℕ) p. subst (λ (nodes : List (List Elem)). IsParent nodes m c.args.n) c.self.view_is ((parent-elems c.self.inside.tree m c.args.n).0 p))
    c.parent.ensures.above
