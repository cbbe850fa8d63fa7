-- The equalities hold exactly for the values for which the effects interfere.
use Rattle.std.proofs.Common.{◌≡◌, ◌↔◌, ℕ, ℤ, ◌+◌, Bool, true, false, not, IsTrue, List, [], ◌∷◌, ◌++◌, length, map, reverse, if◌then◌else◌, refl, sym, ap, ◌∙◌, arith, eqb-true, eq-eqb, int_eq}
use Rattle.std.specs.Prelude.{◌&&◌, ◌||◌, ◌==◌, nat_lt, nat_le}
use Rattle.std.proofs.lemmas.Bool.{and_from}
use Rattle.std.proofs.lemmas.Bool.Decides.{nat_tests, Decides-int_eq}
use Rattle.std.proofs.lemmas.List.{length-map}
use Rattle.region_paths.specs.declared.elements.Elem.{Elem}
use Rattle.region_paths.specs.declared.elements.Elem.TheVariants.{Name, Index, Var, AnyIndex}
use Rattle.region_paths.specs.Written.{WrittenPath}
use Rattle.region_paths.specs.Apart.{apart, clash, clash_from_front, clash_from_end}
use Rattle.region_paths.specs.Filled.{Valuation, elem_under, under, filled, no_var}
use Rattle.region_paths.proofs.Lists.{map-reverse}
use Rattle.effect_sets.specs.declared.effects.Effect.{Effect}
use Rattle.effect_sets.specs.Filled.{effect_under}
use Rattle.effect_sets.specs.Interference.{one_writes, statically_interferes}
use Rattle.effect_sets.proofs.Sets.{interferes-exact}
use Rattle.effect_meeting.specs.declared.equality.Equality.{Equality}
use Rattle.effect_meeting.specs.Equalities.{equality_holds, equalities_hold}
use Rattle.effect_meeting.specs.Meetings.{InterfereUnder}
use Rattle.effect_meeting.specs.PathEqualities.{always, never, elem_equality, front_equalities, end_equalities, wanted, path_equalities, effect_equalities}

twice-not : (b : Bool) → b ≡ not (not b)
twice-not true = refl
twice-not false = refl

named : (v w : Valuation) (b : Bool) → equality_holds v w (if b then always else never) ≡ not (not b)
named v w true = refl
named v w false = refl

pub elem-exact : (v w : Valuation) (x y : Elem) → equality_holds v w (elem_equality x y) ≡ not (clash (elem_under v x) (elem_under w y))
elem-exact v w (Name n) (Name m) = named v w (n == m)
elem-exact v w (Name n) (Index j) = refl
elem-exact v w (Name n) (Var l) = refl
elem-exact v w (Name n) AnyIndex = refl
elem-exact v w (Index i) (Name m) = refl
elem-exact v w (Index i) (Index j) = twice-not (int_eq i j)
elem-exact v w (Index i) (Var l) = twice-not (int_eq i (w l))
elem-exact v w (Index i) AnyIndex = refl
elem-exact v w (Var k) (Name m) = refl
elem-exact v w (Var k) (Index j) = twice-not (int_eq (v k) j)
elem-exact v w (Var k) (Var l) = twice-not (int_eq (v k) (w l))
elem-exact v w (Var k) AnyIndex = refl
elem-exact v w AnyIndex (Name m) = refl
elem-exact v w AnyIndex (Index j) = refl
elem-exact v w AnyIndex (Var l) = refl
elem-exact v w AnyIndex AnyIndex = refl

neither : (a b c d : Bool) → a ≡ not c → b ≡ not d → (a && b) ≡ not (c || d)
neither a b true d e f = ap (λ x. x && b) e
neither a b false d e f = ap (λ x. x && b) e ∙ f

front-exact : (v w : Valuation) (xs ys : List Elem) → equalities_hold v w (front_equalities xs ys) ≡ not (clash_from_front (map (elem_under v) xs) (map (elem_under w) ys))
front-exact v w [] ys = refl
front-exact v w (x ∷ xs) [] = refl
front-exact v w (x ∷ xs) (y ∷ ys) =
    neither (equality_holds v w (elem_equality x y)) (equalities_hold v w (front_equalities xs ys)) (clash (elem_under v x) (elem_under w y))
    (clash_from_front (map (elem_under v) xs) (map (elem_under w) ys)) (elem-exact v w x y) (front-exact v w xs ys)

end-exact : (v w : Valuation) (xs ys : List Elem) → equalities_hold v w (end_equalities xs ys) ≡ not (clash_from_end (map (elem_under v) xs) (map (elem_under w) ys))
end-exact v w xs ys =
    front-exact v w (reverse xs) (reverse ys)
    ∙ ap (λ (us : List Elem). not (clash_from_front us (map (elem_under w) (reverse ys)))) (sym (map-reverse (elem_under v) xs))
    ∙ ap (λ (us : List Elem). not (clash_from_front (reverse (map (elem_under v) xs)) us)) (sym (map-reverse (elem_under w) ys))

pub all-two : (v w : Valuation) (xs ys : List Equality) → equalities_hold v w (xs ++ ys) ≡ (equalities_hold v w xs && equalities_hold v w ys)
all-two v w [] ys = refl
all-two v w (x ∷ xs) ys = grouped (equality_holds v w x) (equalities_hold v w (xs ++ ys)) (equalities_hold v w xs) (equalities_hold v w ys) (all-two v w xs ys) where
  grouped : (a b c d : Bool) → b ≡ (c && d) → (a && b) ≡ ((a && c) && d)
  grouped true b c d e = e
  grouped false b c d e = refl

wanted-exact : (v w : Valuation) (b : Bool) → equalities_hold v w (wanted b) ≡ b
wanted-exact v w true = refl
wanted-exact v w false = refl

fits : (m n : ℕ) → nat_le m n ≡ not (nat_lt n m)
fits m n = grind (arith, nat_tests)

-- a plain path and one round a star
ends-exact : (v w : Valuation) (b : Bool) (es fs : List Equality) (room front end : Bool) → b ≡ not room → equalities_hold v w es ≡ not front → equalities_hold v w fs ≡ not end
    → equalities_hold v w (wanted b ++ (es ++ fs)) ≡ not (room || (front || end))
ends-exact v w b es fs room front end e f g =
    all-two v w (wanted b) (es ++ fs)
    ∙ neither (equalities_hold v w (wanted b)) (equalities_hold v w (es ++ fs)) room (front || end) (wanted-exact v w b ∙ e)
    (all-two v w es fs ∙ neither (equalities_hold v w es) (equalities_hold v w fs) front end f g)

same-lengths : (v w : Valuation) (xs ys : List Elem) → (length xs == length ys) ≡ not (not (length (map (elem_under v) xs) == length (map (elem_under w) ys)))
same-lengths v w xs ys =
    ap (λ (n : ℕ). n == length ys) (sym (length-map xs (elem_under v)))
    ∙ ap (λ (n : ℕ). length (map (elem_under v) xs) == n) (sym (length-map ys (elem_under w)))
    ∙ twice-not (length (map (elem_under v) xs) == length (map (elem_under w) ys))

fitting : (v w : Valuation) (xs ys zs : List Elem)
    → nat_le (length xs + length ys) (length zs) ≡ not (nat_lt (length (map (elem_under v) zs)) (length (map (elem_under w) xs) + length (map (elem_under w) ys)))
fitting v w xs ys zs =
    fits (length xs + length ys) (length zs)
    ∙ ap (λ (n : ℕ). not (nat_lt n (length xs + length ys))) (sym (length-map zs (elem_under v)))
    ∙ ap (λ (n : ℕ). not (nat_lt (length (map (elem_under v) zs)) (n + length ys))) (sym (length-map xs (elem_under w)))
    ∙ ap (λ (n : ℕ). not (nat_lt (length (map (elem_under v) zs)) (length (map (elem_under w) xs) + n))) (sym (length-map ys (elem_under w)))

same-tests : (a b : Bool) → (a ≡ true → b ≡ true) → (b ≡ true → a ≡ true) → a ≡ b
same-tests true b to from = sym (to refl)
same-tests false true to from = from refl
same-tests false false to from = refl

int-swap : (a b : ℤ) → int_eq a b ≡ int_eq b a
int-swap a b =
    same-tests (int_eq a b) (int_eq b a) (λ h. (Decides-int_eq b a).1 (sym ((Decides-int_eq a b).0 h))) (λ h. (Decides-int_eq a b).1 (sym ((Decides-int_eq b a).0 h)))

nat-swap : (n m : ℕ) → (n == m) ≡ (m == n)
nat-swap n m = same-tests (n == m) (m == n) (λ h. eq-eqb m n (sym (eqb-true n m h))) (λ h. eq-eqb n m (sym (eqb-true m n h)))

pub clash-swap : (x y : Elem) → clash x y ≡ clash y x
clash-swap (Name n) (Name m) = ap not (nat-swap n m)
clash-swap (Name n) (Index j) = refl
clash-swap (Name n) (Var l) = refl
clash-swap (Name n) AnyIndex = refl
clash-swap (Index i) (Name m) = refl
clash-swap (Index i) (Index j) = ap not (int-swap i j)
clash-swap (Index i) (Var l) = refl
clash-swap (Index i) AnyIndex = refl
clash-swap (Var k) (Name m) = refl
clash-swap (Var k) (Index j) = refl
clash-swap (Var k) (Var l) = refl
clash-swap (Var k) AnyIndex = refl
clash-swap AnyIndex (Name m) = refl
clash-swap AnyIndex (Index j) = refl
clash-swap AnyIndex (Var l) = refl
clash-swap AnyIndex AnyIndex = refl

front-swap : (xs ys : List Elem) → clash_from_front xs ys ≡ clash_from_front ys xs
front-swap [] [] = refl
front-swap [] (y ∷ ys) = refl
front-swap (x ∷ xs) [] = refl
front-swap (x ∷ xs) (y ∷ ys) =
    ap (λ b. b || clash_from_front xs ys) (clash-swap x y) ∙ ap (λ b. clash y x || b) (front-swap xs ys)

path-parts : (v w : Valuation) (pe : List Elem) (ps : Bool) (pt qe : List Elem) (qs : Bool) (qt : List Elem)
    → equalities_hold v w (path_equalities (record { elems = pe; star = ps; tail = pt }) (record { elems = qe; star = qs; tail = qt }))
    ≡ not (apart (under v (record { elems = pe; star = ps; tail = pt })) (under w (record { elems = qe; star = qs; tail = qt })))
path-parts v w pe false pt qe false qt =
    let ves = map (elem_under v) pe in
    let wes = map (elem_under w) qe in
    all-two v w (wanted (length pe == length qe)) (front_equalities pe qe)
    ∙ neither (equalities_hold v w (wanted (length pe == length qe))) (equalities_hold v w (front_equalities pe qe)) (not (length ves == length wes)) (clash_from_front ves wes)
    (wanted-exact v w (length pe == length qe) ∙ same-lengths v w pe qe) (front-exact v w pe qe)
path-parts v w pe false pt qe true qt =
    ends-exact v w (nat_le (length qe + length qt) (length pe)) (front_equalities pe qe) (end_equalities pe qt)
    (nat_lt (length (map (elem_under v) pe)) (length (map (elem_under w) qe) + length (map (elem_under w) qt)))
    (clash_from_front (map (elem_under v) pe) (map (elem_under w) qe)) (clash_from_end (map (elem_under v) pe) (map (elem_under w) qt))
    (fitting v w qe qt pe) (front-exact v w pe qe) (end-exact v w pe qt)
path-parts v w pe true pt qe false qt =
    ends-exact v w (nat_le (length pe + length pt) (length qe)) (front_equalities pe qe) (end_equalities pt qe)
    (nat_lt (length (map (elem_under w) qe)) (length (map (elem_under v) pe) + length (map (elem_under v) pt)))
    (clash_from_front (map (elem_under w) qe) (map (elem_under v) pe)) (clash_from_end (map (elem_under w) qe) (map (elem_under v) pt))
    (fitting w v pe pt qe) (front-exact v w pe qe ∙ ap not (front-swap (map (elem_under v) pe) (map (elem_under w) qe)))
    (end-exact v w pt qe ∙ ap not (front-swap (reverse (map (elem_under v) pt)) (reverse (map (elem_under w) qe))))
path-parts v w pe true pt qe true qt =
    all-two v w (front_equalities pe qe) (end_equalities pt qt)
    ∙ neither (equalities_hold v w (front_equalities pe qe)) (equalities_hold v w (end_equalities pt qt)) (clash_from_front (map (elem_under v) pe) (map (elem_under w) qe))
    (clash_from_end (map (elem_under v) pt) (map (elem_under w) qt)) (front-exact v w pe qe) (end-exact v w pt qt)

effect-exact : (v w : Valuation) (a b : Effect) → equalities_hold v w (effect_equalities a b) ≡ statically_interferes (effect_under v a) (effect_under w b)
effect-exact v w a b =
    all-two v w (wanted (one_writes a b)) (path_equalities a.path b.path)
    ∙ ap (λ x. x && equalities_hold v w (path_equalities a.path b.path)) (wanted-exact v w (one_writes a b))
    ∙ ap (λ x. one_writes a b && x) (path-parts v w a.path.elems a.path.star a.path.tail b.path.elems b.path.star b.path.tail)

-- a path under a valuation has no variables
no-var-under : (v : Valuation) (xs : List Elem) → no_var (map (elem_under v) xs) ≡ true
no-var-under v [] = refl
no-var-under v (Name n ∷ xs) = no-var-under v xs
no-var-under v (Index i ∷ xs) = no-var-under v xs
no-var-under v (Var k ∷ xs) = no-var-under v xs
no-var-under v (AnyIndex ∷ xs) = no-var-under v xs

under-has-none : (v : Valuation) (p : WrittenPath) → filled (under v p) ≡ true
under-has-none v p = and_from _ _ (no-var-under v p.elems) (no-var-under v p.tail)

pub interfere-exact : (v w : Valuation) (a b : Effect) → IsTrue (equalities_hold v w (effect_equalities a b)) ↔ InterfereUnder v w a b
interfere-exact v w a b =
    interferes-exact (effect_under v a) (effect_under w b) (equalities_hold v w (effect_equalities a b)) (effect-exact v w a b)
    (under-has-none v a.path) (under-has-none w b.path)
