use Rattle.std.proofs.Common.{◌≡◌, ◌+◌, ◌++◌, ◌∷◌, [], inl, inr, ℕ, List, get_or, length, drop, take, sym, ap, ◌∙◌, arith}
use Rattle.std.specs.Prelude.{take_while}
use Rattle.std.proofs.Math.Seq.{take-length}
use Rattle.std.proofs.lemmas.Bool.{false≢true}
use Rattle.std.proofs.lemmas.List.{take_more}
use Rattle.region_paths.specs.declared.elements.Elem.{Elem}
use Rattle.region_paths.specs.declared.elements.Elem.TheVariants.{Name}
use Rattle.region_paths.specs.Filled.{is_solid}
use Rattle.prefix_tree.specs.Nodes.{path_of}
use Rattle.effect_tree.specs.inner.Parts.{elem_of, elem_paths}
use Rattle.effect_tree.proofs.FrontLemmas.{front_ends, front_goes, front_next, front_stops, part_elem}
use Rattle.effect_tree.proofs.PartPaths.{absent-elems}
use Rattle.twe_machine.proofs.listing.Books.{none_above, none_then, passed_next, path_grown, plain_end, root_path, way_ends, wide_end}
use Rattle.twe_machine.proofs.book.TaskBook.bar.Goals as goal

pub loop-elem-init : goal.loop-elem-init
loop-elem-init c =
    let tree = c.root-at.ensures.tree in
    let zero = c.root-at.ensures.number in
    let empty = root_path c.args.self.now.tree c.root-at.result zero tree in
    let some = tree.some in
    record {
      there = omega (arith, zero, some);
      tree = tree;
      front = ap (λ (path : List Elem). path ++ take_while is_solid c.args.elems.now) empty;
      path = empty;
      passed = none_above c.args.st.now c.args.t c.args.self.now c.root-at.result empty;
    }

pub returns-in_default-clause-none : goal.returns-in_default-clause-none
returns-in_default-clause-none c =
    let loop = c.loop-elem in
    let book = c.args.self.now in
    none_then c.bar_at_or_below.result
    (wide_end c.args.st.now c.args.t book loop.invariant.tree loop.at loop.invariant.there loop.invariant.passed c.args.elems.now c.args.star
    (front_stops (path_of (elem_paths book.tree) loop.at) c.args.elems.now loop.elem-index c.loop-elem-test.true loop.invariant.front (sym c.in_default.ensures)))
    c.bar_at_or_below.ensures.none

pub returns-in_default-child-clause-none : goal.returns-in_default-child-clause-none
returns-in_default-child-clause-none c =
    let loop = c.loop-elem in
    let book = c.args.self.now in
    way_ends c.args.st.now c.args.t book loop.invariant.tree loop.at loop.invariant.there loop.invariant.passed c.in_default-bar_at.ensures.none
    c.args.elems.now c.args.star (elem_of c.in-Some.part) (take_while is_solid (drop (loop.elem-index + 1) c.args.elems.now))
    (front_next (path_of (elem_paths book.tree) loop.at) c.args.elems.now loop.elem-index c.in-Some.part c.loop-elem-test.true loop.invariant.front (sym c.in-Some.ensures))
    (absent-elems book.tree loop.at c.in-Some.part c.in_default-child.ensures)

pub loop-elem-preserved : goal.loop-elem-preserved
loop-elem-preserved c =
    let loop = c.loop-elem in
    let book = c.args.self.now in
    let elems = c.args.elems.now in
    let part = c.in-Some.part in
    let next = c.in-Some-child.next in
    let is = c.in-Some-child.ensures.1 in
    let path = path_grown book.tree book.tree loop.at next part is in
    record {
      there = c.in-Some-child.ensures.0;
      tree = loop.invariant.tree;
      front =
          ap (λ (p : List Elem). p ++ take_while is_solid (drop (loop.elem-index + 1) elems)) path
          ∙ front_goes (path_of (elem_paths book.tree) loop.at) elems loop.elem-index part c.loop-elem-test.true loop.invariant.front (sym c.in-Some.ensures);
      path =
          path
          ∙ (ap (λ (p : List Elem). p ++ elem_of part ∷ []) loop.invariant.path
          ∙ (ap (λ (e : Elem). take loop.elem-index elems ++ e ∷ []) (part_elem (get_or elems loop.elem-index (Name 0)) part (sym c.in-Some.ensures))
          ∙ sym (take_more elems loop.elem-index (Name 0) c.loop-elem-test.true)));
      passed = passed_next c.args.st.now c.args.t book loop.invariant.tree loop.at loop.invariant.there loop.invariant.passed c.in_default-bar_at.ensures.none next part is;
    }

pub returns-then-star-clause-none : goal.returns-then-star-clause-none
returns-then-star-clause-none c =
    let loop = c.loop-elem in
    let book = c.args.self.now in
    let all : length c.args.elems.now ≡ loop.elem-index = omega arith in
    none_then c.bar_at_or_below-then-star.result
    (wide_end c.args.st.now c.args.t book loop.invariant.tree loop.at loop.invariant.there loop.invariant.passed c.args.elems.now c.args.star
    (front_ends (path_of (elem_paths book.tree) loop.at) c.args.elems.now loop.elem-index all loop.invariant.front))
    c.bar_at_or_below-then-star.ensures.none

pub returns-else-star-clause-none : goal.returns-else-star-clause-none
returns-else-star-clause-none c =
    let loop = c.loop-elem in
    let book = c.args.self.now in
    let elems = c.args.elems.now in
    let all : length elems ≡ loop.elem-index = omega arith in
    let front = front_ends (path_of (elem_paths book.tree) loop.at) elems loop.elem-index all loop.invariant.front in
    let whole : take_while is_solid elems ≡ elems =
    sym front ∙ (loop.invariant.path ∙ (ap (λ (n : ℕ). take n elems) (sym all) ∙ take-length elems)) in
    none_then c.bar_at-else-star.result
    (λ here. plain_end c.args.st.now c.args.t book loop.invariant.tree loop.at loop.invariant.there loop.invariant.passed here elems c.args.star front
    (λ wide. elim wide [ inl star ↦ false≢true (sym c.if-star.false ∙ star) | inr more ↦ more whole ]))
    c.bar_at-else-star.ensures.none
