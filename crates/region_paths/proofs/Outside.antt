-- Where a filled path does not lie inside another one, a concrete path of its set shows it.
use Rattle.std.proofs.Common.{◌≡◌, ◌+◌, ◌<◌, pos, Bool, true, false, IsTrue, ◌&&◌, List, [], ◌++◌, map, length, reverse, replicate, inl, inr, refl, sym, ap, ◌∙◌, arith, length-append, append-nil}
use Rattle.std.proofs.lemmas.List.{length-replicate, length-reverse, length-map, reverse-append, reverse-reverse}
use Rattle.std.proofs.lemmas.Bool.{true_from_ne_false, cases_eq, cases_lt, both_ways, and_parts, and_cases, leb-false, eqb-false}
use Rattle.region_paths.specs.declared.elements.Elem.{Elem}
use Rattle.region_paths.specs.Written.{WrittenPath}
use Rattle.region_paths.specs.Concrete.{ConcreteElem, number, ConcretePath, InSet, stands, each_stands}
use Rattle.region_paths.specs.Inside.{inside, starts_within, ends_within, each_within, inside_ends}
use Rattle.region_paths.specs.Apart.{apart}
use Rattle.region_paths.specs.Filled.{no_var, filled}
use Rattle.region_paths.specs.Sets.{SetWithin}
use Rattle.region_paths.proofs.Standing.{front_stands, front_stands-append, front_stands-length, each_stands-length, each_stands-reverse}
use Rattle.region_paths.proofs.ElementLaws.{example}
use Rattle.region_paths.proofs.Lists.{no_var-reverse, examples-stand, escapes}
use Rattle.region_paths.proofs.Ends.{Around, around_from, around_to, along_from, along_to}
use Rattle.region_paths.proofs.Soundness.{written}

-- a concrete path that is in the first set and not in the second
abbrev pub Outside : WrittenPath → WrittenPath → Type 0
Outside p q = (c : ConcretePath) × InSet p c × (stands q c ≡ false)

-- a test that would say no of a path says no
no_from : (b : Bool) → (b ≡ true → ⊥) → b ≡ false
no_from true h = absurd (h refl)
no_from false h = refl

-- the front of a path is turned round at its end
turned_append : (xs : List Elem) (front back : ConcretePath) → front_stands (reverse xs) back ≡ true → front_stands (reverse xs) (reverse (front ++ reverse back)) ≡ true
turned_append xs front back h =
    let e : reverse (front ++ reverse back) ≡ back ++ reverse front = reverse-append front (reverse back) ∙ ap (λ (ds : ConcretePath). ds ++ reverse front) (reverse-reverse back) in
    ap (front_stands (reverse xs)) e ∙ front_stands-append (reverse xs) back (reverse front) h

-- a path around both lists, made of a front and an end that they stand against
pub around_made : (elems tail : List Elem) (front back : ConcretePath) → front_stands elems front ≡ true → front_stands (reverse tail) back ≡ true → Around elems tail (front ++ reverse back)
around_made elems tail front back h k = record {
  room = omega (arith, front_stands-length elems front h, front_stands-length (reverse tail) back k, length-reverse tail, length-reverse back, length-append front (reverse back));
  front = front_stands-append elems front (reverse back) h;
  back = turned_append tail front back k;
}

-- a list against a concrete path of its length, both turned round
pub along_turned : (xs : List Elem) (c : ConcretePath) → length xs ≡ length c → front_stands (reverse xs) c ≡ true → each_stands xs (reverse c) ≡ true
along_turned xs c long h =
    let straight = along_to (reverse xs) c (omega (arith, length-reverse xs)) h in
    let turned = each_stands-reverse (reverse xs) c straight in
    rw (reverse-reverse xs) at turned

examples_along : (xs : List Elem) → no_var xs ≡ true → each_stands xs (map example xs) ≡ true
examples_along xs h = along_to xs (map example xs) (sym (length-map xs example)) (examples-stand xs h)

-- a plain path and one without a star: their lengths differ, or some place shows it
outside_plain : (pe qe : List Elem) → no_var pe ≡ true → each_within pe qe ≡ false → (c : ConcretePath) × (each_stands pe c ≡ true) × (each_stands qe c ≡ false)
outside_plain pe qe plain h =
    elim (cases_eq (length pe) (length qe)) [
      | inl same ↦
          let differs : starts_within pe qe ≡ false = elim (and_cases _ _ h) [ inl longer ↦ absurd (eqb-false (length pe) (length qe) longer same) | inr place ↦ place ] in
          let found = escapes pe qe plain differs in
          (found.0, along_to pe found.0 (sym (found.1.as_long (omega arith))) found.1.stands, no_from _ (λ t. both_ways _ (found.1.escapes []) (ap (front_stands qe) (append-nil found.0) ∙ (along_from qe found.0 t).front)))
      | inr differ ↦
          (map example pe, examples_along pe plain, no_from _ (λ t. differ (omega (arith, each_stands-length qe (map example pe) t, length-map pe example))))
    ]

-- a plain path and one round a star: it is too short, or its front or its end shows it
outside_ends : (pe qe qt : List Elem) → no_var pe ≡ true → inside_ends pe qe qt ≡ false → (c : ConcretePath) × (each_stands pe c ≡ true) × (Around qe qt c → ⊥)
outside_ends pe qe qt plain h =
    elim (cases_lt (length pe) (length qe + length qt)) [
      | inl short ↦ (map example pe, examples_along pe plain, λ a. omega (arith, a.room, length-map pe example))
      | inr fits ↦ elim (and_cases _ _ h) [
        | inl longer ↦ let short : length pe < length qe + length qt = leb-false _ _ longer in absurd (omega arith)
        | inr ends ↦ elim (and_cases _ _ ends) [
          | inl front ↦
              let found = escapes pe qe plain front in
              (found.0, along_to pe found.0 (sym (found.1.as_long (omega arith))) found.1.stands, λ a. both_ways _ (found.1.escapes []) (ap (front_stands qe) (append-nil found.0) ∙ a.front))
          | inr back ↦
              let found = escapes (reverse pe) (reverse qt) (no_var-reverse pe plain) back in
              let long : length found.0 ≡ length (reverse pe) = found.1.as_long (omega (arith, length-reverse pe, length-reverse qt)) in
              (reverse found.0, along_turned pe found.0 (omega (arith, length-reverse pe)) found.1.stands, λ a. both_ways _ (found.1.escapes []) (ap (front_stands (reverse qt)) (append-nil found.0 ∙ sym (reverse-reverse found.0)) ∙ a.back))
        ]
      ]
    ]

-- a path round a star has concrete paths of any great length, and one without a star only of its own
outside_longer : (pe pt qe : List Elem) → no_var pe ≡ true → no_var pt ≡ true → (c : ConcretePath) × Around pe pt c × (each_stands qe c ≡ false)
outside_longer pe pt qe plain plain_tail =
    let filler : ConcretePath = replicate (length qe + 1) (number (pos 0)) in
    let front : ConcretePath = map example pe ++ filler in
    let back : ConcretePath = map example (reverse pt) in (
      front ++ reverse back,
      around_made pe pt front back (front_stands-append pe (map example pe) filler (examples-stand pe plain)) (examples-stand (reverse pt) (no_var-reverse pt plain_tail)),
      no_from _ (λ t. omega (
        arith,
        each_stands-length qe (front ++ reverse back) t,
        length-append front (reverse back),
        length-append (map example pe) filler,
        length-replicate {A = ConcreteElem} (length qe + 1) (number (pos 0)),
      )),
    )

-- two paths round a star: the front or the end shows it
outside_star : (pe pt qe qt : List Elem) → no_var pe ≡ true → no_var pt ≡ true → (starts_within pe qe && ends_within pt qt) ≡ false → (c : ConcretePath) × Around pe pt c × (Around qe qt c → ⊥)
outside_star pe pt qe qt plain plain_tail h =
    let turned_plain = no_var-reverse pt plain_tail in
    elim (and_cases _ _ h) [
      | inl front ↦
          let found = escapes pe qe plain front in
          let back : ConcretePath = map example (reverse pt) in (
            found.0 ++ reverse back,
            around_made pe pt found.0 back found.1.stands (examples-stand (reverse pt) turned_plain),
            λ a. both_ways _ (found.1.escapes (reverse back)) a.front,
          )
      | inr back ↦
          let found = escapes (reverse pt) (reverse qt) turned_plain back in
          let front : ConcretePath = map example pe in
          let e : reverse (front ++ reverse found.0) ≡ found.0 ++ reverse front = reverse-append front (reverse found.0) ∙ ap (λ (ds : ConcretePath). ds ++ reverse front) (reverse-reverse found.0) in (
            front ++ reverse found.0,
            around_made pe pt front found.0 (examples-stand pe plain) found.1.stands,
            λ a. both_ways _ (found.1.escapes (reverse front)) (ap (front_stands (reverse qt)) (sym e) ∙ a.back),
          )
    ]

outside-parts : (pe : List Elem) (ps : Bool) (pt qe : List Elem) (qs : Bool) (qt : List Elem) → no_var pe ≡ true → no_var pt ≡ true → inside (written pe ps pt) (written qe qs qt) ≡ false → Outside (written pe ps pt) (written qe qs qt)
outside-parts pe false pt qe false qt plain plain_tail h = outside_plain pe qe plain h
outside-parts pe false pt qe true qt plain plain_tail h =
    let found = outside_ends pe qe qt plain h in
    (found.0, found.1, no_from _ (λ t. found.2 (around_from qe qt found.0 t)))
outside-parts pe true pt qe false qt plain plain_tail h =
    let found = outside_longer pe pt qe plain plain_tail in
    (found.0, around_to pe pt found.0 found.1, found.2)
outside-parts pe true pt qe true qt plain plain_tail h =
    let found = outside_star pe pt qe qt plain plain_tail h in
    (found.0, around_to pe pt found.0 found.1, no_from _ (λ t. found.2 (around_from qe qt found.0 t)))

-- a filled path that is not inside another has a concrete path that the other does not have
pub not_inside-outside : (p q : WrittenPath) → IsTrue (filled p) → inside p q ≡ false → Outside p q
not_inside-outside p q h apart =
    let plain = and_parts _ _ h in
    outside-parts p.elems p.star p.tail q.elems q.star q.tail plain.0 plain.1 apart

-- a filled path whose set is in another's lies inside it
pub within-inside : (p q : WrittenPath) → IsTrue (filled p) → SetWithin p q → IsTrue (inside p q)
within-inside p q h sets =
    true_from_ne_false _ (λ no. let found = not_inside-outside p q h no in both_ways _ found.2 (sets found.0 found.1))

inhabited-parts : (pe : List Elem) (ps : Bool) (pt : List Elem) → no_var pe ≡ true → no_var pt ≡ true → (c : ConcretePath) × InSet (written pe ps pt) c
inhabited-parts pe false pt plain plain_tail =
    (map example pe, along_to pe (map example pe) (sym (length-map pe example)) (examples-stand pe plain))
inhabited-parts pe true pt plain plain_tail =
    let front : ConcretePath = map example pe in
    let back : ConcretePath = map example (reverse pt) in
    let around = around_made pe pt front back (examples-stand pe plain) (examples-stand (reverse pt) (no_var-reverse pt plain_tail)) in
    (front ++ reverse back, around_to pe pt (front ++ reverse back) around)

-- a filled path stands for some concrete path
pub filled-inhabited : (p : WrittenPath) → IsTrue (filled p) → (c : ConcretePath) × InSet p c
filled-inhabited p h =
    let plain = and_parts _ _ h in
    inhabited-parts p.elems p.star p.tail plain.0 plain.1
