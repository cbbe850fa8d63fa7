-- Tables with a list of numbers for each row.
use Rattle.std.specs.Prelude.{ℕ, List, [], Option, None, Some, slice_get}
use Rattle.std.specs.List.{Contains}

-- the list that was found, and none if none was found
abbrev pub numbers_found : Option (List ℕ) → List ℕ
numbers_found None = []
numbers_found (Some list) = list

-- the list of this row, and none if there is no such row
abbrev pub numbers_in : List (List ℕ) → ℕ → List ℕ
numbers_in lists n = numbers_found (slice_get lists n)

-- the list of this row has the number
abbrev pub IsListed : List (List ℕ) → ℕ → ℕ → Type 0
IsListed lists n number = Contains (numbers_in lists n) number
