-- Ways down the tree.
use Rattle.std.specs.Prelude.{◌⊎◌, ◌-◌, ℕ, List, [], ◌∷◌, length, max, Contains}
use Rattle.region_paths.specs.declared.elements.Elem.{Elem}
use Rattle.effect_sets.specs.declared.effects.Effect.{Effect}
use Rattle.prefix_tree.specs.Nodes.{path_of, IsParent}
use Rattle.floor_laws.specs.admission.admission_core.States.{IsApartBelow}

-- the number of elements of the longest path
abbrev pub longest : List (List Elem) → ℕ
longest [] = 0
longest (path ∷ paths) = max (length path) (longest paths)

-- no way down from node n has more nodes below it than this
abbrev pub room_below : List (List Elem) → ℕ → ℕ
room_below nodes n = longest nodes - length (path_of nodes n)

-- These nodes lie right below node n. Nothing that has its place at or below another node right below n interferes with the
-- effect.
abbrev pub AreReached : List (List Elem) → Effect → ℕ → List ℕ → Type 0
AreReached nodes e n children =
    (m : ℕ) → (Contains children m → IsParent nodes n m) × (IsParent nodes n m → Contains children m ⊎ IsApartBelow nodes e m)
