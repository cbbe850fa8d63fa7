-- Which tasks stand in the lists of a run's books.
use Rattle.std.specs.Prelude.{◌≡◌, ◌≤◌, ◌+◌, ◌-◌, ◌^◌, ℕ, List, Some, slice_get}
use Rattle.std.specs.List.{Contains}

-- task t is to be looked at: it is kept as its distance from the greatest number
abbrev pub IsReady : List ℕ → ℕ → Type 0
IsReady ready t = (x : ℕ) × Contains ready x × (x + t ≡ 2 ^ 32 - 1)

-- t is to be looked at, and not below this number
abbrev pub IsReadyFrom : ℕ → List ℕ → ℕ → Type 0
IsReadyFrom from ready t = (from ≤ t) × IsReady ready t

-- t is on the list of u
abbrev pub IsListed : List (List ℕ) → ℕ → ℕ → Type 0
IsListed lists u t = (list : List ℕ) × (slice_get lists u ≡ Some list) × Contains list t
