-- Numberings that a list of different numbers gives.
use Rattle.std.proofs.Common.{◌≡◌, ◌<◌, ◌≤◌, ◌⊎◌, inl, inr, ℕ, zero, suc, Bool, true, false, List, [], ◌∷◌, ◌++◌, length, refl, sym, ap, ◌∙◌, arith}
use Rattle.std.specs.Prelude.{◌==◌, ◌||◌, if◌then◌else◌}
use Rattle.std.specs.List.{list_any}
use Rattle.std.proofs.lemmas.Bool.{eq-eqb, eqb-true}
use Rattle.seg_meaning.specs.Giving.{without}
use Rattle.determinism_laws.specs.numbering.Numberings.{AllBelow, AllDiffer, numbering_of}
use Rattle.determinism_laws.specs.numbering.Played.{IsInjective}
use Rattle.determinism_laws.proofs.numbering.KeptValues.{left_was_there}

less_by : (n bound : ℕ) → n < suc bound → (n ≡ bound → ⊥) → n < bound
less_by n bound less not = omega (arith, less, not)

-- a number of the list, or one from the bound on
or_true : (a b : Bool) → b ≡ true → (a || b) ≡ true
or_true true b e = refl
or_true false b e = e

here_true : (a b : Bool) → a ≡ true → (a || b) ≡ true
here_true true b e = refl
here_true false b e = absurd (cc)

there_or_beyond : (beyond : ℕ) (names : List ℕ) (k : ℕ) → (list_any (λ n. n == numbering_of beyond names k) names ≡ true) ⊎ (beyond ≤ numbering_of beyond names k)
there_or_beyond beyond [] k = inr (omega arith)
there_or_beyond beyond (first ∷ others) zero = inl (here_true (first == first) (list_any (λ n. n == first) others) (eq-eqb first first refl))
there_or_beyond beyond (first ∷ others) (suc k) = elim (there_or_beyond beyond others k) [
  | inl there ↦ inl (or_true (first == numbering_of beyond others k) (list_any (λ n. n == numbering_of beyond others k) others) there)
  | inr beyond_it ↦ inr beyond_it
]

not_first : (beyond first : ℕ) (others : List ℕ) (k : ℕ) → (list_any (λ n. n == first) others ≡ true → ⊥) → first < beyond → numbering_of beyond others k ≡ first → ⊥
not_first beyond first others k differs below same = elim (there_or_beyond beyond others k) [
  | inl there ↦ differs (sym (ap (λ (x : ℕ). list_any (λ n. n == x) others) same) ∙ there)
  | inr beyond_it ↦ absurd (omega (arith, beyond_it, below, same))
]

pub listed_apart : (beyond : ℕ) (names : List ℕ) → AllDiffer names → AllBelow beyond names → IsInjective (numbering_of beyond names)
listed_apart beyond [] differ below a b same = omega (arith, same)
listed_apart beyond (first ∷ others) differ below zero zero same = refl
listed_apart beyond (first ∷ others) differ below zero (suc b) same = absurd (not_first beyond first others b differ.0 below.0 (sym same))
listed_apart beyond (first ∷ others) differ below (suc a) zero same = absurd (not_first beyond first others a differ.0 below.0 same)
listed_apart beyond (first ∷ others) differ below (suc a) (suc b) same = ap suc (listed_apart beyond others differ.1 below.1 a b same)

-- the number at a place
pub listed_at : (beyond : ℕ) (before : List ℕ) (name : ℕ) (later : List ℕ) → numbering_of beyond (before ++ name ∷ later) (length before) ≡ name
listed_at beyond [] name later = refl
listed_at beyond (first ∷ before) name later = listed_at beyond before name later

-- there are no more different numbers below a bound than the bound
others_below : (bound first : ℕ) (others : List ℕ) → first ≡ bound → (list_any (λ n. n == first) others ≡ true → ⊥) → AllBelow (suc bound) others → AllBelow bound others
others_below bound first [] same differs below = tt
others_below bound first (next ∷ others) same differs below =
    let not : next ≡ bound → ⊥ = λ e. differs (here_true (next == first) (list_any (λ n. n == first) others) (eq-eqb next first (e ∙ sym same))) in
    (less_by next bound below.0 not, others_below bound first others same (λ there. differs (or_true (next == first) (list_any (λ n. n == first) others) there)) below.1)

below_without : (bound first : ℕ) (others : List ℕ) (is : Bool) → (first == bound) ≡ is → (list_any (λ n. n == first) others ≡ true → ⊥) → first < suc bound → AllBelow (suc bound) others
    → AllBelow bound (without bound others) → AllBelow bound (if is then others else (first ∷ without bound others))
below_without bound first others true e differs less below rest = others_below bound first others (eqb-true first bound e) differs below
below_without bound first others false e differs less below rest =
    let not : first ≡ bound → ⊥ = λ same. let clash : false ≡ true = sym e ∙ eq-eqb first bound same in absurd (cc) in
    (less_by first bound less not, rest)

all_below_without : (bound : ℕ) (names : List ℕ) → AllDiffer names → AllBelow (suc bound) names → AllBelow bound (without bound names)
all_below_without bound [] differ below = tt
all_below_without bound (first ∷ others) differ below =
    below_without bound first others (first == bound) refl differ.0 below.0 below.1 (all_below_without bound others differ.1 below.1)

differ_without : (bound first : ℕ) (others : List ℕ) (is : Bool) → (list_any (λ n. n == first) others ≡ true → ⊥) → AllDiffer others → AllDiffer (without bound others)
    → AllDiffer (if is then others else (first ∷ without bound others))
differ_without bound first others true differs all rest = all
differ_without bound first others false differs all rest = (λ there. differs (left_was_there bound first others there), rest)

all_differ_without : (bound : ℕ) (names : List ℕ) → AllDiffer names → AllDiffer (without bound names)
all_differ_without bound [] differ = tt
all_differ_without bound (first ∷ others) differ =
    differ_without bound first others (first == bound) differ.0 differ.1 (all_differ_without bound others differ.1)

one_less : (bound first : ℕ) (others : List ℕ) (is : Bool) → length others ≤ suc (length (without bound others)) → suc (length others) ≤ suc (length (if is then others else (first ∷ without bound others)))
one_less bound first others true le = omega arith
one_less bound first others false le = omega (arith, le)

length_without : (bound : ℕ) (names : List ℕ) → length names ≤ suc (length (without bound names))
length_without bound [] = omega arith
length_without bound (first ∷ others) = one_less bound first others (first == bound) (length_without bound others)

none_below : (names : List ℕ) → AllBelow 0 names → length names ≤ 0
none_below [] below = omega arith
none_below (first ∷ others) below = absurd (omega (arith, below.0))

pub few_below : (bound : ℕ) (names : List ℕ) → AllDiffer names → AllBelow bound names → length names ≤ bound
few_below zero names differ below = none_below names below
few_below (suc bound) names differ below =
    let rest = few_below bound (without bound names) (all_differ_without bound names differ) (all_below_without bound names differ below) in
    let count = length_without bound names in
    omega (arith, rest, count)
