-- Paths of numbers.
use Rattle.std.specs.Prelude.{ℕ, List, [], ◌∷◌}

-- edges of these lead from i to j, through the numbers between
abbrev pub IsPath : (ℕ → ℕ → Type 0) → ℕ → List ℕ → ℕ → Type 0
IsPath Kept i [] j = Kept i j
IsPath Kept i (k ∷ between) j = Kept i k × IsPath Kept k between j
