-- Schedules of entries on processors that work at once. An entry has a weight, which is the number of steps that it takes on
-- one processor, without a break. Steps and entries are numbered from 0.
use Rattle.std.specs.Int.{div_ceil}
use Rattle.std.specs.Prelude.{◌≡◌, ◌<◌, ◌≤◌, ◌+◌, ◌&&◌, ◌⊎◌, ℕ, zero, suc, Bool, max, nat_le, nat_lt, if◌then◌else◌}
use Rattle.schedules.specs.Sums.{sum_below}

-- whether an entry of this weight that starts at this step runs in the step
abbrev pub runs_in : ℕ → ℕ → ℕ → Bool
runs_in start weight step = nat_le start step && nat_lt step (start + weight)

-- how many of the first entries run in the step
abbrev pub running : (ℕ → ℕ) → (ℕ → ℕ) → ℕ → ℕ → ℕ
running weight start count step = sum_below (λ entry. if runs_in (start entry) (weight entry) step then 1 else 0) count

-- the length of a schedule: the number of steps until the last of the first entries has ended
abbrev pub length_of : (ℕ → ℕ) → (ℕ → ℕ) → ℕ → ℕ
length_of weight start zero = 0
length_of weight start (suc count) = max (length_of weight start count) (start count + weight count)

-- A schedule gives each entry a start. What leads to another ends before that starts, and at no step do more entries run
-- than there are processors.
pub record IsSchedule (Leads : ℕ → ℕ → Type 0) (weight : ℕ → ℕ) (count processors : ℕ) (start : ℕ → ℕ) : Type 0 where
  pub ordered : (entry next : ℕ) → Leads entry next → start entry + weight entry ≤ start next
  pub few : (step : ℕ) → running weight start count step ≤ processors

-- at the step, the entry waits for one that leads to it and has not ended
pub record Waits (Leads : ℕ → ℕ → Type 0) (weight : ℕ → ℕ) (start : ℕ → ℕ) (entry step : ℕ) : Type 0 where
  pub earlier : ℕ
  pub leads : Leads earlier entry
  pub runs : step < start earlier + weight earlier

-- A schedule is greedy if no processor is idle while an entry could run: at each step before an entry starts, it waits for one
-- that leads to it, or all processors are busy.
pub record IsGreedy (Leads : ℕ → ℕ → Type 0) (weight : ℕ → ℕ) (count processors : ℕ) (start : ℕ → ℕ) : Type 0 where
  pub schedule : IsSchedule Leads weight count processors start
  pub busy : (entry step : ℕ) → entry < count → step < start entry
      → Waits Leads weight start entry step ⊎ (running weight start count step ≡ processors)

-- the least time that work with this span can take on so many processors: the greater of the span, and of the work by the
-- processors, rounded up
abbrev pub least_time : ℕ → ℕ → ℕ → ℕ
least_time work span processors = max span (div_ceil work processors)
