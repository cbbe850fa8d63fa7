-- Paths that are apart stay so with any values for the variables of each.
use Rattle.std.proofs.Common.{◌≡◌, ℕ, ◌+◌, pos, Bool, true, false, not, IsTrue, List, [], ◌∷◌, length, map, reverse, refl, sym, ap, ap₂, ◌∙◌, subst}
use Rattle.std.specs.Prelude.{◌||◌, ◌==◌, IsFalse, nat_lt}
use Rattle.std.proofs.lemmas.Bool.{false≢true, and_from}
use Rattle.std.proofs.lemmas.List.{length-map}
use Rattle.region_paths.specs.declared.elements.Elem.{Elem}
use Rattle.region_paths.specs.declared.elements.Elem.TheVariants.{Name, Index, Var, AnyIndex}
use Rattle.region_paths.specs.Written.{WrittenPath}
use Rattle.region_paths.specs.Apart.{apart, apart_from_ends, clash, clash_from_end, clash_from_front}
use Rattle.region_paths.specs.Concrete.{ConcretePath, InSet}
use Rattle.region_paths.specs.Filled.{Valuation, elem_under, filled, no_var, under}
use Rattle.region_paths.proofs.Exactness.{apart-filled}
use Rattle.region_paths.proofs.Filling.{under-filled}
use Rattle.region_paths.proofs.Lists.{map-reverse}
use Rattle.region_paths.proofs.Meeting.{not_apart-meet}
use Rattle.effect_meeting.specs.Meeting.{MeetAt, NeverMeet}

or-more : (a b c d : Bool) → (a ≡ true → c ≡ true) → (b ≡ true → d ≡ true) → (a || b) ≡ true → (c || d) ≡ true
or-more true b c d h k s = ap (λ x. x || d) (h refl)
or-more false b true d h k s = refl
or-more false b false d h k s = k s

clash-under : (v w : Valuation) (x y : Elem) → clash x y ≡ true → clash (elem_under v x) (elem_under w y) ≡ true
clash-under v w (Name n) (Name m) h = h
clash-under v w (Name n) (Index j) h = refl
clash-under v w (Name n) (Var l) h = refl
clash-under v w (Name n) AnyIndex h = refl
clash-under v w (Index i) (Name m) h = refl
clash-under v w (Index i) (Index j) h = h
clash-under v w (Index i) (Var l) h = absurd (false≢true h)
clash-under v w (Index i) AnyIndex h = h
clash-under v w (Var k) (Name m) h = refl
clash-under v w (Var k) (Index j) h = absurd (false≢true h)
clash-under v w (Var k) (Var l) h = absurd (false≢true h)
clash-under v w (Var k) AnyIndex h = h
clash-under v w AnyIndex (Name m) h = refl
clash-under v w AnyIndex (Index j) h = h
clash-under v w AnyIndex (Var l) h = absurd (false≢true h)
clash-under v w AnyIndex AnyIndex h = h

front-under : (v w : Valuation) (xs ys : List Elem) → clash_from_front xs ys ≡ true → clash_from_front (map (elem_under v) xs) (map (elem_under w) ys) ≡ true
front-under v w [] ys h = absurd (false≢true h)
front-under v w (x ∷ xs) [] h = absurd (false≢true h)
front-under v w (x ∷ xs) (y ∷ ys) h =
    or-more (clash x y) (clash_from_front xs ys) (clash (elem_under v x) (elem_under w y)) (clash_from_front (map (elem_under v) xs) (map (elem_under w) ys))
    (clash-under v w x y) (front-under v w xs ys) h

end-under : (v w : Valuation) (xs ys : List Elem) → clash_from_end xs ys ≡ true → clash_from_end (map (elem_under v) xs) (map (elem_under w) ys) ≡ true
end-under v w xs ys h =
    ap₂ clash_from_front (map-reverse (elem_under v) xs) (map-reverse (elem_under w) ys) ∙ front-under v w (reverse xs) (reverse ys) h

ends-under : (v w : Valuation) (xs elems tail : List Elem) → apart_from_ends xs elems tail ≡ true
    → apart_from_ends (map (elem_under v) xs) (map (elem_under w) elems) (map (elem_under w) tail) ≡ true
ends-under v w xs elems tail h =
    let short : nat_lt (length (map (elem_under v) xs)) (length (map (elem_under w) elems) + length (map (elem_under w) tail))
    ≡ nat_lt (length xs) (length elems + length tail) =
    ap₂ (λ (m n : ℕ). nat_lt m n) (length-map xs (elem_under v)) (ap₂ (λ (m n : ℕ). m + n) (length-map elems (elem_under w)) (length-map tail (elem_under w))) in
    or-more _ _ _ _ (λ less. short ∙ less)
    (or-more (clash_from_front xs elems) (clash_from_end xs tail) _ _ (front-under v w xs elems) (end-under v w xs tail)) h

apart-parts : (v w : Valuation) (pe : List Elem) (ps : Bool) (pt qe : List Elem) (qs : Bool) (qt : List Elem)
    → apart (record { elems = pe; star = ps; tail = pt }) (record { elems = qe; star = qs; tail = qt }) ≡ true
    → apart (under v (record { elems = pe; star = ps; tail = pt })) (under w (record { elems = qe; star = qs; tail = qt })) ≡ true
apart-parts v w pe false pt qe false qt h =
    let same : not (length (map (elem_under v) pe) == length (map (elem_under w) qe)) ≡ not (length pe == length qe) =
    ap₂ (λ (m n : ℕ). not (m == n)) (length-map pe (elem_under v)) (length-map qe (elem_under w)) in
    or-more _ (clash_from_front pe qe) _ _ (λ longer. same ∙ longer) (front-under v w pe qe) h
apart-parts v w pe true pt qe false qt h = ends-under w v qe pe pt h
apart-parts v w pe false pt qe true qt h = ends-under v w pe qe qt h
apart-parts v w pe true pt qe true qt h =
    or-more (clash_from_front pe qe) (clash_from_end pt qt) _ _ (front-under v w pe qe) (end-under v w pt qt) h

no_var-under : (v : Valuation) (xs : List Elem) → no_var (map (elem_under v) xs) ≡ true
no_var-under v [] = refl
no_var-under v (Name n ∷ xs) = no_var-under v xs
no_var-under v (Index i ∷ xs) = no_var-under v xs
no_var-under v (Var k ∷ xs) = no_var-under v xs
no_var-under v (AnyIndex ∷ xs) = no_var-under v xs

filled-under : (v : Valuation) (p : WrittenPath) → IsTrue (filled (under v p))
filled-under v p = and_from _ _ (no_var-under v p.elems) (no_var-under v p.tail)

pub apart-never : (shared : ℕ) (p q : WrittenPath) → IsTrue (apart p q) → NeverMeet shared p q
apart-never shared p q h c met =
    apart-filled (under met.first p) (under met.second q) (filled-under met.first p) (filled-under met.second q)
    (apart-parts met.first met.second p.elems p.star p.tail q.elems q.star q.tail h) c met.in_first met.in_second

abbrev zeros : Valuation
zeros k = pos 0

pub filled-meet : (shared : ℕ) (p q : WrittenPath) → IsTrue (filled p) → IsTrue (filled q) → IsFalse (apart p q)
    → (c : ConcretePath) × MeetAt shared p q c
filled-meet shared p q p_filled q_filled h =
    let found = not_apart-meet p q p_filled q_filled h in (
      found.0,
      record {
        first = zeros;
        second = zeros;
        agree = λ k below. refl;
        in_first = subst (λ (r : WrittenPath). InSet r found.0) (sym (under-filled zeros p p_filled)) found.1;
        in_second = subst (λ (r : WrittenPath). InSet r found.0) (sym (under-filled zeros q q_filled)) found.2;
      },
    )
