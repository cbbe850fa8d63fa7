-- A round turned so that its lowest number stands first.
use Rattle.std.proofs.Common.{◌≡◌, ℕ, ◌+◌, ◌-◌, ◌<◌, ◌≤◌, Bool, true, false, nat_lt, nat_le, List, [], ◌∷◌, ◌++◌, suc, ⊎_elim, length, get_or, take, drop, sym, ap, ◌∙◌, subst, arith}
use Rattle.std.specs.List.{list_all, position_or_len, All, IsFirstBest}
use Rattle.std.proofs.lemmas.Bool.{cases_lt, false≢true, le-leb, leb-true, ltb-true, ltb-false}
use Rattle.std.proofs.lemmas.Bool.Decides.{nat_tests}
use Rattle.std.proofs.lemmas.List.Elements.{All-from_get_or, All-cons, All-nil, All-weaker}
use Rattle.std.proofs.lemmas.List.Folds.{list_all_at}
use Rattle.std.proofs.lemmas.List.Sums.{position_or_len_is, passes_at_first, fails_before_first, list_all-from_AllPass, AllPass-from_list_all}
use Rattle.wait_graph.specs.Walk.{walk, walk_turned, lowest_place}
use Rattle.wait_graph.specs.inner.Again.{after}
use Rattle.wait_graph.proofs.WalkLemmas.{after-add, walk-add, take-walk, drop-walk, length-walk, get_or-walk}
use Rattle.wait_graph.proofs.RoundLemmas.{IsRound, IsRound-turned}

-- a number above another isn't at most that one
nat_le-above : (m n : ℕ) → n < m → nat_le m n ≡ false
nat_le-above m n h = grind (arith, nat_tests)

-- the first of the lowest numbers stands at the place of the lowest
pub lowest_place-first : (xs : List ℕ) (b : ℕ) → IsFirstBest nat_lt xs (length xs) b → lowest_place xs ≡ b
lowest_place-first xs b best =
    let low = best.0 in
    position_or_len_is (λ t. list_all (nat_le t) xs) xs b 0 (omega arith)
    (λ k h.
    list_all_at (nat_le (get_or xs k 0)) xs b 0 low
    (nat_le-above (get_or xs k 0) (get_or xs b 0) (ltb-true (get_or xs b 0) (get_or xs k 0) (best.2 k 0 h))))
    (λ h.
    list_all-from_AllPass (nat_le (get_or xs b 0)) xs
    (All-from_get_or (λ x. nat_le (get_or xs b 0) x ≡ true) xs 0
    (λ i k. le-leb (get_or xs b 0) (get_or xs i 0) (ltb-false (get_or xs i 0) (get_or xs b 0) (best.1 i 0 k)))))

-- a round cut in two, with the parts exchanged, is the same round from another number on
exchanged : (next : ℕ → ℕ) (m n t : ℕ) → after next (m + n) t ≡ t → drop m (walk next (m + n) t) ++ take m (walk next (m + n) t) ≡ walk next (m + n) (after next m t)
exchanged next m n t back =
    let swap : n + m ≡ m + n = omega arith in
    ap (λ ts. ts ++ take m (walk next (m + n) t)) (drop-walk next m n t)
    ∙ ap (λ ts. walk next n (after next m t) ++ ts)
    (take-walk next m n t ∙ ap (walk next m) (sym back ∙ after-add next m n t))
    ∙ sym (walk-add next n m (after next m t)) ∙ ap (λ k. walk next k (after next m t)) swap

-- in a list that isn't empty some number is lowest
some_lowest : (x : ℕ) (xs : List ℕ) → (b : ℕ) × (b < length (x ∷ xs)) × All (λ y. get_or (x ∷ xs) b 0 ≤ y) (x ∷ xs)
some_lowest x [] = (0, omega arith, All-cons (λ y. x ≤ y) x [] (omega arith) (All-nil (λ y. x ≤ y)))
some_lowest x (y ∷ ys) =
    let rest = some_lowest y ys in
    let low = get_or (y ∷ ys) rest.0 0 in
    ⊎_elim
    (λ h. (suc rest.0, let l = rest.1 in omega arith, All-cons (λ z. low ≤ z) x (y ∷ ys) (omega arith) rest.2))
    (λ h. (0, omega arith, All-cons (λ z. x ≤ z) x (y ∷ ys) (omega arith) (All-weaker (λ z. low ≤ z) (λ z. x ≤ z) (λ z k. omega arith) (y ∷ ys) rest.2)))
    (cases_lt low x)

-- the number at the place of the lowest is at most each number
lowest_at : (xs : List ℕ) → 0 < length xs → (b : ℕ) × (b < length xs) × All (λ y. get_or xs b 0 ≤ y) xs
lowest_at [] h = absurd (omega arith)
lowest_at (x ∷ xs) h = some_lowest x xs

pub lowest_place-lowest : (xs : List ℕ) → 0 < length xs → (lowest_place xs < length xs) × ((i : ℕ) → i < length xs → get_or xs (lowest_place xs) 0 ≤ get_or xs i 0)
lowest_place-lowest xs h =
    let least = lowest_at xs h in
    let p : ℕ → Bool = λ t. list_all (nat_le t) xs in
    let passes : p (get_or xs least.0 0) ≡ true =
    list_all-from_AllPass (nat_le (get_or xs least.0 0)) xs
    (All-weaker (λ y. get_or xs least.0 0 ≤ y) (λ y. nat_le (get_or xs least.0 0) y ≡ true) (λ y k. le-leb (get_or xs least.0 0) y k) xs least.2) in
    let found : position_or_len p xs < length xs =
    ⊎_elim (λ k. k)
    (λ k. absurd (false≢true (sym (fails_before_first p xs least.0 0 (let l = least.1 in omega arith)) ∙ passes)))
    (cases_lt (position_or_len p xs) (length xs)) in
    let place = lowest_place xs in
    let all = AllPass-from_list_all (nat_le (get_or xs place 0)) xs (passes_at_first p xs 0 found) in
    (found, λ i k. leb-true (get_or xs place 0) (get_or xs i 0) (all i 0 k))

-- a round that begins with its lowest number
pub record IsTurned (next : ℕ → ℕ) (p t b : ℕ) : Type 0 where
  pub value : walk_turned (walk next p t) ≡ walk next p (after next b t)
  pub round : IsRound next p (after next b t)
  pub lowest : (i : ℕ) → i < p → after next b t ≤ after next i (after next b t)

-- where a round is after any number of steps up to two rounds
round_at : (next : ℕ → ℕ) (p t : ℕ) → after next p t ≡ t → (b i : ℕ) → b < p → i < p → (j : ℕ) × (j < p) × (after next i (after next b t) ≡ after next j t)
round_at next p t back b i low high =
    ⊎_elim
    (λ h. (b + i, h, sym (after-add next b i t)))
    (λ h.
    let parts : b + i ≡ p + ((b + i) - p) = omega arith in (
      (b + i) - p,
      omega arith,
      sym (after-add next b i t) ∙ ap (λ k. after next k t) parts ∙ after-add next p ((b + i) - p) t ∙ ap (after next ((b + i) - p)) back,
    ))
    (cases_lt (b + i) p)

-- the turned round is the round from its lowest number on
pub IsTurned-round : (next : ℕ → ℕ) (p t : ℕ) → IsRound next p t → IsTurned next p t (lowest_place (walk next p t))
IsTurned-round next p t r =
    let ts = walk next p t in
    let size = length-walk next p t in
    let some = r.some in
    let least = lowest_place-lowest ts (omega arith) in
    let b = lowest_place ts in
    let low : b < p = let l = least.0 in omega arith in
    let parts : b + (p - b) ≡ p = omega arith in
    record {
      value =
          subst (λ (k : ℕ). drop b (walk next k t) ++ take b (walk next k t) ≡ walk next k (after next b t)) parts
          (exchanged next b (p - b) t (ap (λ k. after next k t) parts ∙ r.back));
      round =
          subst (λ (k : ℕ). IsRound next k (after next b t)) parts
          (IsRound-turned next b (p - b) t (subst (λ (k : ℕ). IsRound next k t) (sym parts) r));
      lowest = λ i h.
          let at = round_at next p t r.back b i low h in
          let here : get_or ts b 0 ≡ after next b t = get_or-walk next p t b 0 low in
          let there : get_or ts at.0 0 ≡ after next at.0 t = get_or-walk next p t at.0 0 at.1 in
          let least_there = least.1 at.0 (let l = at.1 in omega arith) in
          let same = at.2 in
          omega arith;
    }
