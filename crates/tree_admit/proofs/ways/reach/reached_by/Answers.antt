-- The node by the element is the only one that it leads to.
use Rattle.std.proofs.Common.{◌≡◌, ◌≢◌, ◌++◌, ◌∷◌, [], ℕ, true, sym, ap, subst, ◌∙◌, inl, inr, ⊎_elim}
use Rattle.std.specs.Prelude.{Contains}
use Rattle.std.proofs.lemmas.Bool.{cases_eq}
use Rattle.region_paths.specs.declared.elements.Elem.{Elem}
use Rattle.region_paths.specs.Filled.{is_solid}
use Rattle.prefix_tree.specs.Nodes.{path_of}
use Rattle.tree_admit.proofs.ways.reach.reached_by.Goals as goal

pub returns-then-not-is_fixed-clause-below : goal.returns-then-not-is_fixed-clause-below
returns-then-not-is_fixed-clause-below c m there = (c.below-below.ensures.each m).0 there

pub returns-then-not-is_fixed-clause-others : goal.returns-then-not-is_fixed-clause-others
returns-then-not-is_fixed-clause-others c m lies = inl ((c.below-below.ensures.each m).1 lies)

pub returns-in-Some-clause-below : goal.returns-in-Some-clause-below
returns-in-Some-clause-below c m there = (c.below-below.ensures.each m).0 (c.part_with.ensures.fewer m there)

pub returns-in-Some-clause-others : goal.returns-in-Some-clause-others
returns-in-Some-clause-others c m lies =
    let nodes = c.args.shape.now in
    let child = c.in-Some.child in
    let found = c.in-Some.ensures in
    let solid : is_solid c.args.elem ≡ true = sym c.is_fixed.ensures ∙ c.if-not-is_fixed.false in
    ⊎_elim
    (λ (same : m ≡ child).
    let there = c.part_with.ensures.has ((c.below-below.ensures.each child).1 (c.requires, found.0, (c.args.elem, found.1))) in
    inl (subst (λ (x : ℕ). Contains c.part_with.result.now x) (sym same) there))
    (λ (other : m ≢ child).
    inr (solid, λ by. other (c.nodes-count.ensures.tree.once m child lies.1 found.0 (lies.2.1 ∙ ap (λ (e : Elem). path_of nodes c.args.node ++ e ∷ []) by ∙ sym found.1))))
    (cases_eq m child)
