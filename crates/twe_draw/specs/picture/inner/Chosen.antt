-- What holds while tasks are chosen.
use Rattle.std.specs.Prelude.{◌≡◌, ◌<◌, ◌≤◌, ℕ, true, false, Bool, List, length, max}
use Rattle.twe_draw.specs.picture.Choice.{IsHeavier, how_many, is_flagged}

-- so many of these tasks are shown: those that are needed, and beside those only tasks that are heavier than each that is not
-- shown
pub record AreChosen (most : ℕ) (works : List ℕ) (needed shown : List Bool) (count : ℕ) : Type 0 where
  pub each : length shown ≡ length works
  pub needed_are : (task : ℕ) → is_flagged needed task ≡ true → is_flagged shown task ≡ true
  pub heaviest : (first second : ℕ) → is_flagged shown first ≡ true → is_flagged needed first ≡ false
      → second < length works → is_flagged shown second ≡ false → IsHeavier works first second
  pub count_is : how_many shown ≡ count
  pub no_more : count ≤ max most (how_many needed)
  pub no_fewer : how_many needed ≤ count
