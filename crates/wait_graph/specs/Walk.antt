-- Walks along a function on numbers, and the round that a walk ends in.
use Rattle.std.specs.Prelude.{ℕ, zero, suc, ◌==◌, nat_le, List, [], ◌∷◌, ◌++◌, take, drop, if◌then◌else◌}
use Rattle.std.specs.List.{list_any, list_all, before_first, position_or_len}

-- the first n numbers of the walk from t, on which each number is followed by its `next`
abbrev pub walk : (ℕ → ℕ) → ℕ → ℕ → List ℕ
walk next zero t = []
walk next (suc n) t = t ∷ walk next n (next t)

-- the part of a walk from the first number that comes again, up to the place at which it comes again
abbrev pub first_round : List ℕ → List ℕ
first_round [] = []
first_round (t ∷ ts) = if list_any (λ u. u == t) ts then t ∷ before_first (λ u. u == t) ts else first_round ts

-- the place of the lowest number of a list
abbrev pub lowest_place : List ℕ → ℕ
lowest_place ts = position_or_len (λ t. list_all (nat_le t) ts) ts

-- a round that begins with its lowest number: the numbers before it are put after the rest
abbrev pub walk_turned : List ℕ → List ℕ
walk_turned ts = drop (lowest_place ts) ts ++ take (lowest_place ts) ts
