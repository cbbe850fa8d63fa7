-- Sums over the first numbers.
use Rattle.std.specs.Prelude.{◌+◌, ℕ, zero, suc}

-- the sum of what the function gives for the first numbers, of which there are so many
abbrev pub sum_below : (ℕ → ℕ) → ℕ → ℕ
sum_below f zero = 0
sum_below f (suc n) = sum_below f n + f n
