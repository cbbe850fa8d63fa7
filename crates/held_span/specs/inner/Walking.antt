-- The walk from a task back along those that made one another.
use Rattle.std.specs.Prelude.{◌≡◌, ◌<◌, ◌≤◌, ℕ, List, [], ◌∷◌, ◌++◌, Some, length, slice_get}
use Rattle.held_span.specs.declared.ways.Ways.{Ways}

-- Each task but the first was made by a lower one, and the way to each begins at it or before.
pub record AreWays (ways : Ways) : Type 0 where
  pub as_many : length ways.firsts ≡ length ways.makers
  pub lower : (t maker : ℕ) → slice_get ways.makers t ≡ Some maker → 0 < t → maker < t
  pub back : (t first : ℕ) → slice_get ways.firsts t ≡ Some first → first ≤ t

-- From a task, the walk passes these others until it is at s or before. After each it goes on where the way to that one began.
abbrev pub IsWalk : Ways → ℕ → ℕ → List ℕ → Type 0
IsWalk ways s at [] = at ≤ s
IsWalk ways s at (maker ∷ others) =
    (s < at) × (slice_get ways.makers at ≡ Some maker)
    × ((first : ℕ) × (slice_get ways.firsts maker ≡ Some first) × IsWalk ways s first others)

-- the next task, which this one has made
abbrev pub entered : Ways → ℕ → Ways
entered ways maker = record { makers = ways.makers ++ maker ∷ []; firsts = ways.firsts ++ length ways.firsts ∷ [] }

-- the first task has made the second
pub record IsMakerOf (makers : List ℕ) (a b : ℕ) : Type 0 where
  pub there : slice_get makers b ≡ Some a
  pub some : 0 < b
