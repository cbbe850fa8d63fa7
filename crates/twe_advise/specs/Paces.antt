-- How long paced timetables take.
use Rattle.std.specs.Prelude.{◌≡◌, ◌==◌, ◌*◌, ◌/◌, ◌++◌, ℕ, zero, suc, List, [], ◌∷◌, Option, None, Some, map, min, if◌then◌else◌}
use Rattle.std.specs.List.{All}
use Rattle.schedules.specs.Timetables.{IsPacedTime}
use Rattle.twe_advise.specs.declared.paces.PacedTime.{PacedTime}

-- a number of workers that is asked for has a row; there is none for 0 workers
abbrev pub asked_counts : Option ℕ → List ℕ
asked_counts None = []
asked_counts (Some zero) = []
asked_counts (Some (suc others)) = suc others ∷ []

-- the numbers of workers that have a row
abbrev pub worker_counts : Option ℕ → List ℕ
worker_counts asked = (1 ∷ 2 ∷ 4 ∷ 8 ∷ 16 ∷ 64 ∷ []) ++ asked_counts asked

-- With so many workers, the paced timetable of entries that could start and end at the first two lists of times takes so long,
-- and that of entries that could start and end at the other two, which are those with admissions, so long.
pub record IsPace (starts ends held_starts held_ends : List ℕ) (pace : PacedTime) : Type 0 where
  pub paced : IsPacedTime starts ends pace.workers pace.time
  pub held : IsPacedTime held_starts held_ends pace.workers pace.held

-- these are the paces with each of these numbers of workers
pub record ArePaces (starts ends held_starts held_ends counts : List ℕ) (paces : List PacedTime) : Type 0 where
  pub workers : map (λ (pace : PacedTime). pace.workers) paces ≡ counts
  pub each : All (IsPace starts ends held_starts held_ends) paces

-- The time that is shown of a timetable, or the work if that is less: one worker can take one entry after another.
abbrev pub shown_time : ℕ → ℕ → ℕ
shown_time work time = min work time

-- The speed-up is the work by the time, in hundredths, rounded down. It is 0 if nothing was done.
abbrev pub speed_up : ℕ → ℕ → ℕ
speed_up work time = if time == 0 then 0 else work * 100 / time
