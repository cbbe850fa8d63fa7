-- Which part of a walk `first_round` is.
use Rattle.std.proofs.Common.{◌≡◌, ◌≢◌, ℕ, zero, suc, ◌+◌, ◌<◌, true, false, cond, eqb, List, ◌∷◌, ◌++◌, length, get_or, take, refl, sym, ap, ◌∙◌, subst, ⊎_elim, arith, eq-eqb}
use Rattle.std.specs.List.{list_any, before_first}
use Rattle.std.proofs.lemmas.Bool.{cases_lt, ne_eqb}
use Rattle.std.proofs.lemmas.List.{take_at, length-append, get_or_at, get_or_append_left}
use Rattle.std.proofs.lemmas.List.Elements.{All-from_get_or}
use Rattle.std.proofs.lemmas.List.Folds.{list_any_none, list_any_at}
use Rattle.std.proofs.lemmas.List.Sums.{position_or_len_is}
use Rattle.wait_graph.specs.Walk.{walk, first_round}
use Rattle.wait_graph.specs.inner.Again.{after, ComesAgain}
use Rattle.wait_graph.proofs.WalkLemmas.{after-suc, walk-add, length-walk, get_or-walk}

-- a number that stands in the list is found in it
list_any_middle : (t : ℕ) (xs ys : List ℕ) → list_any (λ u. eqb u t) (xs ++ t ∷ ys) ≡ true
list_any_middle t xs ys =
    list_any_at (λ u. eqb u t) (xs ++ t ∷ ys) (length xs) 0 (let e = length-append xs (t ∷ ys) in omega arith)
    (ap (λ u. eqb u t) (get_or_at xs t ys 0 (length xs) refl) ∙ eq-eqb t t refl)

-- what stands before the first t
before_first_middle : (t : ℕ) (xs ys : List ℕ) → ((i : ℕ) → i < length xs → get_or xs i 0 ≢ t) → before_first (λ u. eqb u t) (xs ++ t ∷ ys) ≡ xs
before_first_middle t xs ys away =
    ap (λ n. take n (xs ++ t ∷ ys))
    (position_or_len_is (λ u. eqb u t) (xs ++ t ∷ ys) (length xs) 0 (let e = length-append xs (t ∷ ys) in omega arith)
    (λ k h. ap (λ u. eqb u t) (get_or_append_left xs (t ∷ ys) 0 k h) ∙ ne_eqb (get_or xs k 0) t (away k h))
    (λ h. ap (λ u. eqb u t) (get_or_at xs t ys 0 (length xs) refl) ∙ eq-eqb t t refl))
    ∙ take_at xs (t ∷ ys) (length xs) refl

first_round-at : (t : ℕ) (ts xs ys : List ℕ) → ts ≡ xs ++ t ∷ ys → ((i : ℕ) → i < length xs → get_or xs i 0 ≢ t) → first_round (t ∷ ts) ≡ t ∷ xs
first_round-at t ts xs ys e away =
    ap (λ us. first_round (t ∷ us)) e
    ∙ ap (λ b. cond b (t ∷ before_first (λ u. eqb u t) (xs ++ t ∷ ys)) (first_round (xs ++ t ∷ ys))) (list_any_middle t xs ys)
    ∙ ap (λ us. t ∷ us) (before_first_middle t xs ys away)

first_round-past : (t : ℕ) (ts : List ℕ) → ((i : ℕ) → i < length ts → get_or ts i 0 ≢ t) → first_round (t ∷ ts) ≡ first_round ts
first_round-past t ts away =
    ap (λ b. cond b (t ∷ before_first (λ u. eqb u t) ts) (first_round ts))
    (list_any_none (λ u. eqb u t) ts (All-from_get_or (λ u. eqb u t ≡ false) ts 0 (λ i h. ne_eqb (get_or ts i 0) t (away i h))))

-- a walk that has come again stays at the numbers where it was
stays : (next : ℕ → ℕ) (m n t : ℕ) → m < n → after next n t ≡ after next m t → (j : ℕ) → (i : ℕ) × (i < n) × (after next j t ≡ after next i t)
stays next m n t h e zero = (0, omega arith, refl)
stays next m n t h e (suc j) =
    let s = stays next m n t h e j in
    let on : after next (suc j) t ≡ after next (suc s.0) t = after-suc next j t ∙ ap next s.2 ∙ sym (after-suc next s.0 t) in
    ⊎_elim (λ k. (suc s.0, k, on))
    (λ k. (m, h, on ∙ ap (λ q. after next q t) (let f : suc s.0 ≡ n = omega arith in f) ∙ e)) (cases_lt (suc s.0) n)

ComesAgain-next : (next : ℕ → ℕ) (m n t : ℕ) → ComesAgain next (suc m) (suc n) t → ComesAgain next m n (next t)
ComesAgain-next next m n t c = record {
  before = let b = c.before in omega arith;
  again = c.again;
  distinct = λ i j h k. c.distinct (suc i) (suc j) (omega arith) (omega arith);
}

-- the part from the first number that comes again is the walk from there, as far as it is new
pub first_round-walk : (next : ℕ → ℕ) (m p more t : ℕ) → ComesAgain next m (m + p) t → first_round (walk next (suc (m + p + more)) t) ≡ walk next p (after next m t)
first_round-walk next zero zero more t c = absurd (let b = c.before in omega arith)
first_round-walk next zero (suc p) more t c =
    let long : zero + suc p + more ≡ p + suc more = omega arith in
    let turn : suc p ≡ zero + suc p = omega arith in
    let back : after next p (next t) ≡ t = ap (λ k. after next k t) turn ∙ c.again in
    let ys = walk next more (next (after next p (next t))) in
    ap (λ k. first_round (walk next (suc k) t)) long
    ∙ first_round-at t (walk next (p + suc more) (next t)) (walk next p (next t)) ys
    (walk-add next p (suc more) (next t) ∙ ap (λ u. walk next p (next t) ++ u ∷ ys) back)
    (λ i h e.
    let k : i < p = let l = length-walk next p (next t) in omega arith in
    c.distinct 0 (suc i) (omega arith) (omega arith) (sym e ∙ get_or-walk next p (next t) i 0 k))
first_round-walk next (suc m) p more t c =
    let long : suc m + p + more ≡ suc (m + p + more) = omega arith in
    let turns : suc m + p ≡ suc (m + p) = omega arith in
    let again : ComesAgain next (suc m) (suc (m + p)) t = subst (λ (n : ℕ). ComesAgain next (suc m) n t) turns c in
    ap (λ k. first_round (walk next (suc k) t)) long
    ∙ first_round-past t (walk next (suc (m + p + more)) (next t))
    (λ i h e.
    let k : i < suc (m + p + more) = let l = length-walk next (suc (m + p + more)) (next t) in omega arith in
    let rest = ComesAgain-next next m (m + p) t again in
    let s = stays next m (m + p) (next t) rest.before rest.again i in
    let low = s.1 in
    again.distinct 0 (suc s.0) (omega arith) (omega arith)
    (sym e ∙ get_or-walk next (suc (m + p + more)) (next t) i 0 k ∙ s.2))
    ∙ first_round-walk next m p more (next t) (ComesAgain-next next m (m + p) t again)
