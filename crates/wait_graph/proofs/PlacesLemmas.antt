-- The place that each number has in a walk, kept in a list with one entry a number.
use Rattle.std.proofs.Common.{◌≡◌, ◌≢◌, ℕ, ◌+◌, ◌<◌, List, length, get_or, set, Option, Some, None, cond, count_by, sym, ap, ◌∙◌, ⊎_elim, arith, get_or-set_same, get_or-set_other}
use Rattle.std.specs.Option.{is_none}
use Rattle.std.proofs.lemmas.Bool.{cases_eq, cases_lt}
use Rattle.std.proofs.lemmas.List.Sums.{sum_by-set}
use Rattle.wait_graph.specs.inner.Again.{after, ComesAgain}

-- each of the first n numbers of the walk from start has its place in it, and the other numbers have none
pub record HasPlaces (next : ℕ → ℕ) (start n : ℕ) (places : List (Option ℕ)) : Type 0 where
  pub met : (t i : ℕ) → get_or places t None ≡ Some i → (i < n) × (after next i start ≡ t)
  pub placed : (i : ℕ) → i < n → get_or places (after next i start) None ≡ Some i

-- a walk that is at a number with a place has come to it again
pub ComesAgain-from_place : (next : ℕ → ℕ) (start n m : ℕ) (places : List (Option ℕ)) → HasPlaces next start n places → get_or places (after next n start) None ≡ Some m → ComesAgain next m n start
ComesAgain-from_place next start n m places h at = record {
  before = (h.met (after next n start) m at).0;
  again = sym (h.met (after next n start) m at).1;
  distinct = λ i j low high e.
      let first = h.placed i (omega arith) in
      let second = h.placed j high in
      let same : Some i ≡ Some j = sym first ∙ ap (λ t. get_or places t None) e ∙ second in
      let k : i ≡ j = cc in
      absurd (omega arith);
}

-- a number with no place gets the next one
pub HasPlaces-more : (next : ℕ → ℕ) (start n at : ℕ) (places : List (Option ℕ)) → HasPlaces next start n places → at ≡ after next n start → at < length places → get_or places at None ≡ None → HasPlaces next start (n + 1) (set places at (Some n))
HasPlaces-more next start n at places h here low new = record {
  met = λ t i e.
      ⊎_elim
      (λ same.
      let e' : Some n ≡ Some i = sym (ap (λ u. get_or (set places at (Some n)) u None) same ∙ get_or-set_same places at (Some n) None low) ∙ e in
      let k : n ≡ i = cc in
      (omega arith, ap (λ j. after next j start) (sym k) ∙ sym here ∙ sym same))
      (λ other.
      let old = h.met t i (sym (get_or-set_other places at t (Some n) None other) ∙ e) in
      (let o = old.0 in omega arith, old.1))
      (cases_eq t at);
  placed = λ i k.
      ⊎_elim
      (λ less.
      let other : after next i start ≢ at = λ e. let o = h.placed i less in let p = ap (λ t. get_or places t None) e in cc in
      get_or-set_other places at (after next i start) (Some n) None other ∙ h.placed i less)
      (λ last.
      let e : i ≡ n = omega arith in
      ap (λ u. get_or (set places at (Some n)) u None) (ap (λ j. after next j start) e ∙ sym here)
      ∙ get_or-set_same places at (Some n) None low ∙ ap Some (sym e))
      (cases_lt i n);
}

-- and one place fewer is left
pub count_by-none_set : (at n : ℕ) (places : List (Option ℕ)) → at < length places → get_or places at None ≡ None → count_by is_none (set places at (Some n)) + 1 ≡ count_by is_none places
count_by-none_set at n places low new =
    let weight : Option ℕ → ℕ = λ o. cond (is_none o) 1 0 in
    let changed = sum_by-set weight places at (Some n) None low in
    let counted : weight (get_or places at None) ≡ 1 = ap weight new in
    omega arith
