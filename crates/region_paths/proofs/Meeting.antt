-- Where two filled paths do not lie apart, a concrete path is in both of their sets.
use Rattle.std.proofs.Common.{◌≡◌, ◌+◌, ◌≤◌, Bool, true, false, IsTrue, List, [], ◌∷◌, ◌++◌, length, reverse, take, drop, refl, sym, ap, ◌∙◌, arith, eqb-true, length-take, length-drop, take-append-drop}
use Rattle.std.proofs.lemmas.List.{length-reverse, reverse-append}
use Rattle.std.proofs.lemmas.Bool.{true_from_ne_false, and_parts, or_parts, or_from, ltb-false, not-false}
use Rattle.region_paths.specs.declared.elements.Elem.{Elem}
use Rattle.region_paths.specs.Written.{WrittenPath}
use Rattle.region_paths.specs.Concrete.{ConcretePath, each_stands}
use Rattle.region_paths.specs.Apart.{apart, clash_from_front, clash_from_end, apart_from_ends}
use Rattle.region_paths.specs.Filled.{no_var, filled}
use Rattle.region_paths.specs.Sets.{SetsApart, SetsMeet}
use Rattle.region_paths.proofs.Standing.{each_stands-append}
use Rattle.region_paths.proofs.Lists.{no_var-parts, no_var-cons, no_var-reverse, commons}
use Rattle.region_paths.proofs.Ends.{Around, around_to, along_to}
use Rattle.region_paths.proofs.Soundness.{written}
use Rattle.region_paths.proofs.Outside.{along_turned, around_made}

no_var-split : (xs ys : List Elem) → no_var (xs ++ ys) ≡ true → (no_var xs ≡ true) × (no_var ys ≡ true)
no_var-split [] ys h = (refl, h)
no_var-split (x ∷ xs) ys h =
    let parts = no_var-parts x (xs ++ ys) h in
    let rest = no_var-split xs ys parts.1 in
    (no_var-cons x xs parts.0 rest.0, rest.1)

-- lists that do not clash from the front do not where the first is shorter
clash_from_front-front : (xs rest ys : List Elem) → clash_from_front (xs ++ rest) ys ≡ false → clash_from_front xs ys ≡ false
clash_from_front-front [] rest ys h = refl
clash_from_front-front (x ∷ xs) rest [] h = refl
clash_from_front-front (x ∷ xs) rest (y ∷ ys) h =
    let parts = or_parts _ _ h in
    or_from _ _ parts.0 (clash_from_front-front xs rest ys parts.1)

-- a path along a list in two parts, and around lists that do not clash with its front and its end
meet_split : (front back elems tail : List Elem) → no_var front ≡ true → no_var back ≡ true → no_var elems ≡ true → no_var tail ≡ true → length front ≡ length elems → length tail ≤ length back → clash_from_front (front ++ back) elems ≡ false → clash_from_end (front ++ back) tail ≡ false → (c : ConcretePath) × (each_stands (front ++ back) c ≡ true) × Around elems tail c
meet_split front back elems tail front_plain back_plain elems_plain tail_plain long room no_front no_back =
    let first = commons front elems front_plain elems_plain (clash_from_front-front front back elems no_front) in
    let turned : clash_from_front (reverse back ++ reverse front) (reverse tail) ≡ false = ap (λ (xs : List Elem). clash_from_front xs (reverse tail)) (sym (reverse-append front back)) ∙ no_back in
    let last = commons (reverse back) (reverse tail) (no_var-reverse back back_plain) (no_var-reverse tail tail_plain) (clash_from_front-front (reverse back) (reverse front) (reverse tail) turned) in
    let along_first = along_to front first.0 (omega (arith, first.1.as_long)) first.1.first in
    let along_last = along_turned back last.0 (omega (arith, last.1.as_long, length-reverse back, length-reverse tail)) last.1.first in (
      first.0 ++ reverse last.0,
      each_stands-append front first.0 back (reverse last.0) along_first along_last,
      around_made elems tail first.0 last.0 first.1.second last.1.second,
    )

-- a plain path and one round a star that are not apart
meet_ends : (xs elems tail : List Elem) → no_var xs ≡ true → no_var elems ≡ true → no_var tail ≡ true → apart_from_ends xs elems tail ≡ false → (c : ConcretePath) × (each_stands xs c ≡ true) × Around elems tail c
meet_ends xs elems tail plain elems_plain tail_plain h =
    let parts = or_parts _ _ h in
    let clashes = or_parts _ _ parts.1 in
    let fits : length elems + length tail ≤ length xs = ltb-false _ _ parts.0 in
    let cut = length elems in
    let split = take-append-drop cut xs in
    let plain_parts = no_var-split (take cut xs) (drop cut xs) (ap no_var split ∙ plain) in
    let found = meet_split (take cut xs) (drop cut xs) elems tail plain_parts.0 plain_parts.1 elems_plain tail_plain (omega (arith, length-take cut xs)) (omega (arith, length-drop cut xs)) (ap (λ (ys : List Elem). clash_from_front ys elems) split ∙ clashes.0) (ap (λ (ys : List Elem). clash_from_end ys tail) split ∙ clashes.1) in
    (found.0, ap (λ (ys : List Elem). each_stands ys found.0) (sym split) ∙ found.1, found.2)

meet-parts : (pe : List Elem) (ps : Bool) (pt qe : List Elem) (qs : Bool) (qt : List Elem) → no_var pe ≡ true → no_var pt ≡ true → no_var qe ≡ true → no_var qt ≡ true → apart (written pe ps pt) (written qe qs qt) ≡ false → SetsMeet (written pe ps pt) (written qe qs qt)
meet-parts pe false pt qe false qt p_plain p_tail q_plain q_tail h =
    let parts = or_parts _ _ h in
    let same : length pe ≡ length qe = eqb-true _ _ (not-false _ parts.0) in
    let found = commons pe qe p_plain q_plain parts.1 in
    let long : length found.0 ≡ length pe = omega (arith, found.1.as_long) in
    (found.0, along_to pe found.0 (sym long) found.1.first, along_to qe found.0 (omega arith) found.1.second)
meet-parts pe false pt qe true qt p_plain p_tail q_plain q_tail h =
    let found = meet_ends pe qe qt p_plain q_plain q_tail h in
    (found.0, found.1, around_to qe qt found.0 found.2)
meet-parts pe true pt qe false qt p_plain p_tail q_plain q_tail h =
    let found = meet_ends qe pe pt q_plain p_plain p_tail h in
    (found.0, around_to pe pt found.0 found.2, found.1)
meet-parts pe true pt qe true qt p_plain p_tail q_plain q_tail h =
    let parts = or_parts _ _ h in
    let front = commons pe qe p_plain q_plain parts.0 in
    let back = commons (reverse pt) (reverse qt) (no_var-reverse pt p_tail) (no_var-reverse qt q_tail) parts.1 in (
      front.0 ++ reverse back.0,
      around_to pe pt _ (around_made pe pt front.0 back.0 front.1.first back.1.first),
      around_to qe qt _ (around_made qe qt front.0 back.0 front.1.second back.1.second),
    )

-- filled paths that are not apart have a concrete path in common
pub not_apart-meet : (p q : WrittenPath) → IsTrue (filled p) → IsTrue (filled q) → apart p q ≡ false → SetsMeet p q
not_apart-meet p q p_filled q_filled h =
    let p_plain = and_parts _ _ p_filled in
    let q_plain = and_parts _ _ q_filled in
    meet-parts p.elems p.star p.tail q.elems q.star q.tail p_plain.0 p_plain.1 q_plain.0 q_plain.1 h

-- filled paths whose sets have nothing in common lie apart
pub sets_apart-apart : (p q : WrittenPath) → IsTrue (filled p) → IsTrue (filled q) → SetsApart p q → IsTrue (apart p q)
sets_apart-apart p q p_filled q_filled sets =
    true_from_ne_false _ (λ no. let found = not_apart-meet p q p_filled q_filled no in sets found.0 found.1 found.2)
