-- Which tasks are shown, where not all are: those that have to be, and of the others those with the most work.
use Rattle.std.specs.Prelude.{◌≡◌, ◌<◌, ◌≤◌, ℕ, suc, Bool, true, false, List, [], ◌∷◌, Option, None, Some, length, max, min, slice_get, slice_index}

-- a flag that was looked up
abbrev pub flag_found : Option Bool → Bool
flag_found None = false
flag_found (Some flag) = flag

-- whether the flag of a task is set
abbrev pub is_flagged : List Bool → ℕ → Bool
is_flagged flags task = flag_found (slice_get flags task)

-- how many flags are set
abbrev pub how_many : List Bool → ℕ
how_many [] = 0
how_many (true ∷ flags) = suc (how_many flags)
how_many (false ∷ flags) = how_many flags

-- the first task has more work than the second, or as much and a lower number
pub record IsHeavier (works : List ℕ) (first second : ℕ) : Type 0 where
  pub no_less : slice_index works second ≤ slice_index works first
  pub lower_if_as_much : slice_index works first ≡ slice_index works second → first < second

-- These tasks are shown of tasks with these works: each that is needed; beside those only tasks that are heavier than each one
-- that is not shown; and as many in all as there may be at most, or as are needed if more are, or all if there are fewer.
pub record AreShown (most : ℕ) (works : List ℕ) (needed shown : List Bool) : Type 0 where
  pub each : length shown ≡ length works
  pub needed_are : (task : ℕ) → is_flagged needed task ≡ true → is_flagged shown task ≡ true
  pub heaviest : (first second : ℕ) → is_flagged shown first ≡ true → is_flagged needed first ≡ false
      → second < length works → is_flagged shown second ≡ false → IsHeavier works first second
  pub count : how_many shown ≡ min (length works) (max most (how_many needed))
