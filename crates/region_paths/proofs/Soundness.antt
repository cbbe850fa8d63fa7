-- The laws of inside and apart under every valuation.
use Rattle.std.proofs.Common.{◌≡◌, ◌+◌, ◌≤◌, ◌<◌, Bool, true, false, IsTrue, List, map, length, reverse, inl, inr, sym, ap, ◌∙◌, arith, eqb-true}
use Rattle.std.proofs.lemmas.List.{length-reverse, length-map}
use Rattle.std.proofs.lemmas.Bool.{false≢true, and_parts, or_cases, leb-true, ltb-true, not-true, eqb-false}
use Rattle.region_paths.specs.declared.elements.Elem.{Elem}
use Rattle.region_paths.specs.Written.{WrittenPath}
use Rattle.region_paths.specs.Concrete.{ConcretePath}
use Rattle.region_paths.specs.Inside.{inside, ends_within}
use Rattle.region_paths.specs.Apart.{apart, clash_from_end, apart_from_ends}
use Rattle.region_paths.specs.Filled.{Valuation, elem_under, under}
use Rattle.region_paths.specs.Sets.{SetWithin, SetsApart}
use Rattle.region_paths.proofs.Standing.{front_stands}
use Rattle.region_paths.proofs.Lists.{map-reverse, starts_within-stands, starts_within-length, clash_from_front-stands}
use Rattle.region_paths.proofs.Ends.{Around, Along, around_from, around_to, along_from, along_to}

abbrev pub written : List Elem → Bool → List Elem → WrittenPath
written elems star tail = record { elems = elems; star = star; tail = tail }

-- what stands against the end of a concrete path, as the front of the lists turned round
turned : (v : Valuation) (xs : List Elem) (c : ConcretePath) → front_stands (reverse (map (elem_under v) xs)) c ≡ front_stands (map (elem_under v) (reverse xs)) c
turned v xs c = ap (λ (ys : List Elem). front_stands ys c) (map-reverse (elem_under v) xs)

pub ends_within-stands : (v : Valuation) (xs ys : List Elem) (c : ConcretePath) → ends_within xs ys ≡ true → front_stands (reverse (map (elem_under v) xs)) c ≡ true → front_stands (reverse (map (elem_under v) ys)) c ≡ true
ends_within-stands v xs ys c h s =
    turned v ys c ∙ starts_within-stands v (reverse xs) (reverse ys) c h (sym (turned v xs c) ∙ s)

pub clash_from_end-stands : (v : Valuation) (xs ys : List Elem) (c : ConcretePath) → clash_from_end xs ys ≡ true → front_stands (reverse (map (elem_under v) xs)) c ≡ true → front_stands (reverse (map (elem_under v) ys)) c ≡ true → ⊥
clash_from_end-stands v xs ys c h s t =
    clash_from_front-stands v (reverse xs) (reverse ys) c h (sym (turned v xs c) ∙ s) (sym (turned v ys c) ∙ t)

inside-parts : (v : Valuation) (pe : List Elem) (ps : Bool) (pt qe : List Elem) (qs : Bool) (qt : List Elem) → inside (written pe ps pt) (written qe qs qt) ≡ true → SetWithin (under v (written pe ps pt)) (under v (written qe qs qt))
inside-parts v pe false pt qe false qt h c s =
    let lists = and_parts _ _ h in
    let along = along_from _ c s in
    let same : length pe ≡ length qe = eqb-true _ _ lists.0 in
    along_to _ c (omega (arith, along.long, length-map pe (elem_under v), length-map qe (elem_under v))) (starts_within-stands v pe qe c lists.1 along.front)
inside-parts v pe true pt qe false qt h c s = absurd (false≢true h)
inside-parts v pe false pt qe true qt h c s =
    let parts = and_parts _ _ h in
    let ends = and_parts _ _ parts.1 in
    let along = along_from _ c s in
    let fits : length qe + length qt ≤ length pe = leb-true _ _ parts.0 in
    around_to _ _ c (record {
      room = omega (arith, along.long, length-map pe (elem_under v), length-map qe (elem_under v), length-map qt (elem_under v));
      front = starts_within-stands v pe qe c ends.0 along.front;
      back = ends_within-stands v pe qt (reverse c) ends.1 along.back;
    })
inside-parts v pe true pt qe true qt h c s =
    let ends = and_parts _ _ h in
    let around = around_from _ _ c s in
    around_to _ _ c (record {
      room = omega (arith, around.room, starts_within-length pe qe ends.0, starts_within-length (reverse pt) (reverse qt) ends.1, length-reverse pt, length-reverse qt, length-map pe (elem_under v), length-map pt (elem_under v), length-map qe (elem_under v), length-map qt (elem_under v));
      front = starts_within-stands v pe qe c ends.0 around.front;
      back = ends_within-stands v pt qt (reverse c) ends.1 around.back;
    })

pub inside-within : (p q : WrittenPath) → IsTrue (inside p q) → (v : Valuation) → SetWithin (under v p) (under v q)
inside-within p q h v = inside-parts v p.elems p.star p.tail q.elems q.star q.tail h

-- a list along a concrete path, and two lists apart from it, around it
apart_along : (v : Valuation) (xs elems tail : List Elem) (c : ConcretePath) → apart_from_ends xs elems tail ≡ true → Along (map (elem_under v) xs) c → Around (map (elem_under v) elems) (map (elem_under v) tail) c → ⊥
apart_along v xs elems tail c h along around =
    elim (or_cases _ _ h) [
      | inl short ↦ let is_short : length xs < length elems + length tail = ltb-true _ _ short in absurd (omega (arith, along.long, around.room, length-map xs (elem_under v), length-map elems (elem_under v), length-map tail (elem_under v)))
      | inr clashes ↦ elim (or_cases _ _ clashes) [
        | inl front ↦ clash_from_front-stands v xs elems c front along.front around.front
        | inr back ↦ clash_from_end-stands v xs tail (reverse c) back along.back around.back
      ]
    ]

apart-parts : (v : Valuation) (pe : List Elem) (ps : Bool) (pt qe : List Elem) (qs : Bool) (qt : List Elem) → apart (written pe ps pt) (written qe qs qt) ≡ true → SetsApart (under v (written pe ps pt)) (under v (written qe qs qt))
apart-parts v pe false pt qe false qt h c s t =
    let first = along_from _ c s in
    let second = along_from _ c t in
    elim (or_cases _ _ h) [
      | inl longer ↦ eqb-false (length pe) (length qe) (not-true _ longer) (omega (arith, first.long, second.long, length-map pe (elem_under v), length-map qe (elem_under v)))
      | inr clashes ↦ clash_from_front-stands v pe qe c clashes first.front second.front
    ]
apart-parts v pe true pt qe false qt h c s t = apart_along v qe pe pt c h (along_from _ c t) (around_from _ _ c s)
apart-parts v pe false pt qe true qt h c s t = apart_along v pe qe qt c h (along_from _ c s) (around_from _ _ c t)
apart-parts v pe true pt qe true qt h c s t =
    let first = around_from _ _ c s in
    let second = around_from _ _ c t in
    elim (or_cases _ _ h) [
      | inl front ↦ clash_from_front-stands v pe qe c front first.front second.front
      | inr back ↦ clash_from_end-stands v pt qt (reverse c) back first.back second.back
    ]

pub apart-apart : (p q : WrittenPath) → IsTrue (apart p q) → (v : Valuation) → SetsApart (under v p) (under v q)
apart-apart p q h v = apart-parts v p.elems p.star p.tail q.elems q.star q.tail h
