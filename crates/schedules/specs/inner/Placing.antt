-- How an entry gets a processor.
use Rattle.std.specs.Prelude.{◌≡◌, ◌<◌, ◌≤◌, ◌+◌, ◌-◌, ◌^◌, ℕ, List, length, max, slice_index, slice_set}
use Rattle.std.specs.List.{All}
use Rattle.schedules.specs.declared.pacing.PacedJob.{PacedJob}

-- The processors are free at these times. The entry takes one that is free first: it starts then, but not before it may, with
-- this delay. It is delayed so much, and ends at this time, and the processors are free at later times.
pub record IsPlaced (free : List ℕ) (job : PacedJob) (delay later end : ℕ) (after : List ℕ) : Type 0 where
  pub least : ℕ
  pub there : least < length free
  pub is_least : (k : ℕ) → k < length free → slice_index free least ≤ slice_index free k
  pub start : ℕ
  pub start_is : start ≡ max (job.early + delay) (slice_index free least)
  pub later_is : later ≡ start - job.early
  pub end_is : end ≡ start + job.weight
  pub after_is : after ≡ slice_set free least (start + job.weight)

-- the greatest number of 64 bits
abbrev pub most_64 : ℕ
most_64 = 2 ^ 64 - 1

-- the delay and the times at which processors are free are no greater than so
pub record AreSmall (free : List ℕ) (delay bound : ℕ) : Type 0 where
  pub little : delay ≤ bound
  pub small : All (λ (time : ℕ). time ≤ bound + most_64) free
