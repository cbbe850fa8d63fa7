-- The list of the node is that of the table.
use Rattle.std.proofs.Common.{◌≡◌, ℕ, ◌<◌, List, [], length, get_or, sym, ap, subst, ◌∙◌, arith}
use Rattle.std.specs.Prelude.{Contains}
use Rattle.std.specs.List.Sorted.{IsStrictlyIncreasing}
use Rattle.std.proofs.lemmas.List.{get_or-map, length-map}
use Rattle.region_paths.specs.declared.elements.Elem.{Elem}
use Rattle.prefix_tree.specs.Nodes.{IsParent}
use Rattle.effect_tree.specs.inner.Children.{items_of}
use Rattle.effect_tree.proofs.PartPaths.{length-elems, parent-elems}
use Rattle.effect_tree.proofs.shape.Shape.below.Goals as goal

pub index-requires : goal.index-requires
index-requires c =
    let all = length-elems c.self.inside.tree in
    let seen = ap length c.self.view_is in
    let lists = length-map c.self.inside.below.items (λ v. v.items) in
    let counted = c.self.invariant.1.counted in
    let there : c.args.n < length c.self.inside.below.items = omega (arith, c.requires) in
    omega arith

-- what is returned
answer : (c : goal.After-as_slice) → c.as_slice.result.now ≡ get_or (items_of c.self.inside.below) c.args.n []
answer c =
    let below = c.self.inside.below.items in
    let all = length-elems c.self.inside.tree in
    let seen = ap length c.self.view_is in
    let lists = length-map below (λ v. v.items) in
    let counted = c.self.invariant.1.counted in
    let there : c.args.n < length below = omega (arith, c.requires) in
    c.as_slice.ensures.value
    ∙ ap (λ v. v.items) c.index.ensures
    ∙ sym (get_or-map (λ v. v.items) below c.args.n c.index.result.now [] there)

pub returns-clause-each : goal.returns-clause-each
returns-clause-each c m =
    let tree = c.self.inside.tree in
    let has = c.self.invariant.1.each c.args.n m in
    let parent = parent-elems tree c.args.n m in (
      λ h.
          subst (λ (nodes : List (List Elem)). IsParent nodes c.args.n m) c.self.view_is
          (parent.0 (has.0 (subst (λ (xs : List ℕ). Contains xs m) (answer c) h)).1),
      λ p.
          let below = parent.1 (subst (λ (nodes : List (List Elem)). IsParent nodes c.args.n m) (sym c.self.view_is) p) in
          subst (λ (xs : List ℕ). Contains xs m) (sym (answer c)) (has.1 (below.1, below)),
    )

pub returns-clause-in_order : goal.returns-clause-in_order
returns-clause-in_order c = subst IsStrictlyIncreasing (sym (answer c)) (c.self.invariant.1.in_order c.args.n)
