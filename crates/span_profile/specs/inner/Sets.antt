-- Sets of numbers below a bound.
use Rattle.std.specs.Prelude.{◌≡◌, ◌≤◌, ◌+◌, ◌++◌, ◌==◌, ℕ, Bool, false, not, List, [], ◌∷◌, length, Option, None, Some, if◌then◌else◌, slice_get}
use Rattle.std.specs.List.{count_by, list_any}

-- the numbers of a set, each once, in the order in which they were added; all are below the size
pub record NumberSet : Type 0 where
  pub size : ℕ
  pub items : List ℕ

-- the empty set of numbers below this size
abbrev pub no_cells : ℕ → NumberSet
no_cells size = record { size = size; items = [] }

-- whether the number is one of these
abbrev pub is_in : List ℕ → ℕ → Bool
is_in items n = list_any (λ item. item == n) items

-- the set with this number
abbrev pub with_cell : ℕ → NumberSet → NumberSet
with_cell n set = if is_in set.items n then set else record set { items = set.items ++ n ∷ [] }

-- an entry of a table, and false beyond the table's end
abbrev pub has_found : Option Bool → Bool
has_found None = false
has_found (Some has) = has

-- The table says which numbers are in the set, and there is room for those that are not.
pub record IsCellSet (has : List Bool) (cells : List ℕ) (capacity : ℕ) : Type 0 where
  pub listed : (n : ℕ) → has_found (slice_get has n) ≡ is_in cells n
  pub room : length cells + count_by not has ≤ capacity
  pub full : length has ≤ capacity
