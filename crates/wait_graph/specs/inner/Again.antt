-- Where a walk along a function is, and when it comes to a number again.
use Rattle.std.specs.Prelude.{◌≡◌, ◌≢◌, ℕ, zero, suc, ◌<◌}

-- where the walk from t is after n steps
abbrev pub after : (ℕ → ℕ) → ℕ → ℕ → ℕ
after next zero t = t
after next (suc n) t = after next n (next t)

-- the first n numbers of the walk from t are all different, and then it is again where it was after m steps
pub record ComesAgain (next : ℕ → ℕ) (m n t : ℕ) : Type 0 where
  pub before : m < n
  pub again : after next n t ≡ after next m t
  pub distinct : (i j : ℕ) → i < j → j < n → after next i t ≢ after next j t
