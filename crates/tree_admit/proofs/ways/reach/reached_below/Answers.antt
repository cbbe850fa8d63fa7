-- What the effect does not reach is apart from it.
use Rattle.std.proofs.Common.{◌≡◌, ◌≢◌, ◌∙◌, true, List, length, sym, ap, inl, inr, ⊎_elim, arith}
use Rattle.std.specs.Prelude.{Contains, slice_get}
use Rattle.region_paths.specs.declared.elements.Elem.{Elem}
use Rattle.region_paths.specs.Filled.{is_solid}
use Rattle.prefix_tree.specs.Nodes.{path_of}
use Rattle.tree_admit.proofs.ways.ReachLemmas.{ended_apart, other_apart}
use Rattle.tree_admit.proofs.ways.reach.reached_below.Goals as goal

pub returns-in-Some-clause-reached : goal.returns-in-Some-clause-reached
returns-in-Some-clause-reached c m =
    let nodes = c.args.shape.now in
    let e = c.args.effect.now in
    let elem = c.in-Some.elem in
    let elems = c.as_slice.ensures ∙ c.elems.ensures.part in
    let next = ap (λ (xs : List Elem). slice_get xs (length (path_of nodes c.args.node))) (sym elems) ∙ (sym c.next_elem.ensures ∙ c.in-Some.is) in (
      λ there. c.reached_by.ensures.below m there,
      λ lies.
          ⊎_elim
          (λ (there : Contains c.reached_by.result.now m). inl there)
          (λ (far : (is_solid elem ≡ true) × (lies.2.0 ≢ elem)). inr (other_apart nodes e c.args.node m lies elem next far.0 far.1))
          (c.reached_by.ensures.others m lies),
    )

pub returns-then-star-clause-reached : goal.returns-then-star-clause-reached
returns-then-star-clause-reached c m = (λ there. (c.below-below.ensures.each m).0 there, λ lies. inl ((c.below-below.ensures.each m).1 lies))

pub returns-else-star-clause-reached : goal.returns-else-star-clause-reached
returns-else-star-clause-reached c m =
    let nodes = c.args.shape.now in
    let elems = c.as_slice.ensures ∙ c.elems.ensures.part in
    let none = ap (λ (xs : List Elem). slice_get xs (length (path_of nodes c.args.node))) (sym elems) ∙ (sym c.next_elem.ensures ∙ c.in-None.is) in (
      λ there. let within = there.1 in absurd (omega (arith, within)),
      λ lies. inr (ended_apart nodes c.args.effect.now c.args.node m lies none (sym c.star.ensures.part ∙ c.if-star.false)),
    )
