-- The child by an element is the child by its part in the tree of parts.
use Rattle.std.proofs.Common.{◌≡◌, ◌++◌, ◌∷◌, [], ℕ, List, length, sym, ap, subst, arith}
use Rattle.region_paths.specs.declared.elements.Elem.{Elem}
use Rattle.prefix_tree.specs.Nodes.{path_of, IsNode}
use Rattle.effect_tree.specs.inner.Parts.{elem_of}
use Rattle.effect_tree.proofs.FrontLemmas.{part_elem}
use Rattle.effect_tree.proofs.Outcomes.{match_weaker}
use Rattle.effect_tree.proofs.PartPaths.{length-elems, child-elems, absent-elems, no_part-elems}
use Rattle.effect_tree.proofs.shape.Shape.child.Goals as goal

pub child-requires : goal.child-requires
child-requires c =
    let all = length-elems c.self.inside.tree in
    let seen = ap length c.self.view_is in
    omega (arith, c.requires)

pub returns-in_default : goal.returns-in_default
returns-in_default c =
    subst (λ (ns : List (List Elem)). ¬ IsNode ns (path_of ns c.args.n ++ c.args.elem ∷ [])) c.self.view_is
    (no_part-elems c.self.inside.tree c.args.n c.args.elem (sym c.in_default.ensures))

pub returns : goal.returns
returns c =
    let tree = c.self.inside.tree in
    let n = c.args.n in
    let next = c.in-Some.next in
    let last = part_elem c.args.elem next (sym c.in-Some.ensures) in
    let all = length-elems tree in
    let seen = ap length c.self.view_is in
    match_weaker c.child.result _ _ _ _
    (λ absent.
    subst (λ (e : Elem). ¬ IsNode c.args.self.now (path_of c.args.self.now n ++ e ∷ [])) last
    (subst (λ (ns : List (List Elem)). ¬ IsNode ns (path_of ns n ++ elem_of next ∷ [])) c.self.view_is (absent-elems tree n next absent)))
    (λ (m : ℕ) found. (
      let there = found.0 in omega (arith, all, seen, there),
      subst (λ (e : Elem). path_of c.args.self.now m ≡ path_of c.args.self.now n ++ e ∷ []) last
          (subst (λ (ns : List (List Elem)). path_of ns m ≡ path_of ns n ++ elem_of next ∷ []) c.self.view_is (child-elems tree n m next found.1)),
    ))
    c.child.ensures
