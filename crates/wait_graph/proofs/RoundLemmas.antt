-- A walk that comes to a number again goes round from there on.
use Rattle.std.proofs.Common.{◌≡◌, ◌≢◌, ℕ, ◌+◌, ◌-◌, ◌<◌, sym, ap, ◌∙◌, arith}
use Rattle.wait_graph.specs.inner.Again.{after, ComesAgain}
use Rattle.wait_graph.proofs.WalkLemmas.{after-add}

-- the walk from t comes back to t after p steps, and not before
pub record IsRound (next : ℕ → ℕ) (p t : ℕ) : Type 0 where
  pub some : 0 < p
  pub back : after next p t ≡ t
  pub first : (i : ℕ) → 0 < i → i < p → after next i t ≢ t

-- from there it goes round
pub IsRound-again : (next : ℕ → ℕ) (m p t : ℕ) → ComesAgain next m (m + p) t → IsRound next p (after next m t)
IsRound-again next m p t c = record {
  some = let b = c.before in omega arith;
  back = sym (after-add next m p t) ∙ c.again;
  first = λ i h k e. c.distinct m (m + i) (omega arith) (omega arith) (sym (after-add next m i t ∙ e));
}

-- a round may begin at any of its numbers
pub IsRound-turned : (next : ℕ → ℕ) (m n t : ℕ) → IsRound next (m + n) t → IsRound next (m + n) (after next m t)
IsRound-turned next m n t r = record {
  some = r.some;
  back =
      sym (after-add next m (m + n) t) ∙ ap (λ k. after next k t) (let e : m + (m + n) ≡ (m + n) + m = omega arith in e)
      ∙ after-add next (m + n) m t ∙ ap (after next m) r.back;
  first = λ i h k e. r.first i h k
      (ap (after next i) (sym r.back) ∙ sym (after-add next (m + n) i t)
      ∙ ap (λ j. after next j t) (let e : (m + n) + i ≡ (m + i) + n = omega arith in e)
      ∙ after-add next (m + i) n t ∙ ap (after next n) (after-add next m i t ∙ e) ∙ sym (after-add next m n t) ∙ r.back);
}

-- the numbers of a round are all different
pub IsRound-distinct : (next : ℕ → ℕ) (p t i j : ℕ) → IsRound next p t → i < j → j < p → after next i t ≢ after next j t
IsRound-distinct next p t i j r h k e =
    r.first (i + (p - j)) (omega arith) (omega arith)
    (after-add next i (p - j) t ∙ ap (after next (p - j)) e ∙ sym (after-add next j (p - j) t)
    ∙ ap (λ q. after next q t) (let f : j + (p - j) ≡ p = omega arith in f) ∙ r.back)
