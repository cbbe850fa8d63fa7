-- The best of the tasks that are not shown.
use Rattle.std.specs.Prelude.{◌≡◌, ◌≢◌, ◌<◌, ℕ, true, false, Bool, List, Option, None, Some}
use Rattle.twe_draw.specs.picture.Choice.{IsHeavier, is_flagged}

-- of the tasks below a number that are not shown, this one is heavier than each other
pub record IsFirstLeft (works : List ℕ) (shown : List Bool) (below task : ℕ) : Type 0 where
  pub within : task < below
  pub left : is_flagged shown task ≡ false
  pub first : (other : ℕ) → other < below → is_flagged shown other ≡ false → other ≢ task → IsHeavier works task other

-- this is that task, if there is one
abbrev pub IsBest : List ℕ → List Bool → ℕ → Option ℕ → Type 0
IsBest works shown below None = (task : ℕ) → task < below → is_flagged shown task ≡ true
IsBest works shown below (Some task) = IsFirstLeft works shown below task
