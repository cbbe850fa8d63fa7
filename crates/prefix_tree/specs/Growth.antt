-- How a tree grows: which paths become those of nodes.
use Rattle.std.specs.Prelude.{◌≡◌, ℕ, pos, ◌<◌, ◌≤◌, ◌↔◌, ◌⊎◌, List, [], ◌∷◌, ◌++◌, length}
use Rattle.prefix_tree.specs.declared.part.Part.{Part}
use Rattle.prefix_tree.specs.declared.part.Part.TheVariants.{Index}
use Rattle.prefix_tree.specs.Nodes.{path_of, IsNode}

-- the old nodes keep their numbers, and the paths of the nodes are the old ones and the added ones
pub record Grows {A : Type 0} (old new : List (List A)) (IsAdded : List A → Type 0) : Type 0 where
  pub longer : length old ≤ length new
  pub kept : (n : ℕ) → n < length old → path_of new n ≡ path_of old n
  pub exact : (path : List A) → IsNode new path ↔ (IsNode old path ⊎ IsAdded path)

-- the path of an element of an array that lies at the first path and has n elements
abbrev pub IsRowElement : List Part → ℕ → List Part → Type 0
IsRowElement above n path = (i : ℕ) × (i < n) × (path ≡ above ++ Index (pos i) ∷ [])

-- The path of a row of a grid that lies at the first path, or of an element of a row. A grid without columns has no
-- elements, and its rows are left out.
abbrev pub IsGridElement : List Part → ℕ → ℕ → List Part → Type 0
IsGridElement above rows columns path =
    (0 < columns) × ((i : ℕ) × (i < rows)
    × ((path ≡ above ++ Index (pos i) ∷ []) ⊎ IsRowElement (above ++ Index (pos i) ∷ []) columns path))
