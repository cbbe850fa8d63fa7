use Rattle.std.proofs.Common.{◌≡◌, ◌++◌, List, map, ap, ◌∙◌, subst}
use Rattle.prefix_tree.specs.declared.part.Part.{Part}
use Rattle.region_paths.specs.declared.elements.Elem.{Elem}
use Rattle.isolation_laws.specs.soundness.CellPaths.{concrete}
use Rattle.span_profile.specs.inner.Numbering.{IsNumber, decl_parts, part_of, parts_at}
use Rattle.span_profile.proofs.Numbers.{keeps_grown, keeps_later, more_numbered, none_numbered, number_kept}
use Rattle.span_profile.proofs.places.add_cells.Goals as goal

pub loop-place-init : goal.loop-place-init
loop-place-init c =
    let parts_are : c.as_slice-2.result.now ≡ decl_parts c.args.decl.now =
    c.as_slice-2.ensures
    ∙ (c.in_ok-path.ensures ∙ ap (λ (l : List Elem). map (λ (e : Elem). part_of (concrete e)) l) (c.as_slice.ensures ∙ c.elems.ensures.part)) in
    let keeps = keeps_grown c.args.tree.now c.add_path.new.self _ c.in_ok-base.ensures.grows in
    record {
      keeps = keeps;
      base = record { there = c.in_ok-base.ensures.there; path_is = c.in_ok-base.ensures.path ∙ parts_are };
      numbers = none_numbered c.args.tree.now c.add_path.new.self c.args.numbers.now keeps;
    }

pub add_element-requires-clause-base : goal.add_element-requires-clause-base
add_element-requires-clause-base c = c.loop-place.invariant.base.there

pub loop-place-preserved : goal.loop-place-preserved
loop-place-preserved c =
    let so_far = c.loop-place.invariant in
    let keeps = c.in_ok-add_element.ensures.keeps in
    let place = c.loop-place.place in
    let decl = c.args.decl.now in
    record {
      keeps = keeps_later c.args.tree.now c.loop-place.tree c.add_element.new.tree so_far.keeps keeps;
      base = number_kept c.loop-place.tree c.add_element.new.tree c.in_ok-base.base _ keeps so_far.base;
      numbers =
          more_numbered c.args.tree.now c.loop-place.tree c.add_element.new.tree c.args.numbers.now c.loop-place.numbers c.push.new.self decl place c.in_ok-add_element.field-0 keeps c.in_ok-push.ensures.ok
          (subst (λ (l : List Part). IsNumber c.add_element.new.tree c.in_ok-add_element.field-0 (l ++ parts_at decl.dims place)) so_far.base.path_is c.in_ok-add_element.ensures.number) so_far.numbers;
    }
