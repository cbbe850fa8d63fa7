-- What is kept of bars so that it need not be looked for.
use Rattle.std.specs.Prelude.{◌≡◌, ℕ, List, Option, None, Some, slice_get}
use Rattle.twe_draw.specs.picture.Bars.{concerns, has_done, last_that}
use Rattle.twe_draw.specs.declared.picture.bars.Bars.{Bars}
use Rattle.twe_draw.specs.declared.picture.bars.EntryBar.{EntryBar}

-- an entry of a table, and none beyond the table's end
abbrev pub number_found : Option (Option ℕ) → Option ℕ
number_found None = None
number_found (Some number) = number

-- the number of a task, if it has one
abbrev pub number_at : List (Option ℕ) → ℕ → Option ℕ
number_at numbers task = number_found (slice_get numbers task)

-- the number of the task whose value is taken, if one is
abbrev pub giver_at : List (Option ℕ) → Option ℕ → Option ℕ
giver_at done None = None
giver_at done (Some task) = number_at done task

-- for each task the last of these bars that concerns it
abbrev pub KnowLast : List (Option ℕ) → List EntryBar → Type 0
KnowLast lasts marks = (task : ℕ) → number_at lasts task ≡ last_that (concerns task) marks

-- for each task the one whose entry has done it
abbrev pub KnowDone : List (Option ℕ) → List EntryBar → Type 0
KnowDone done marks = (task : ℕ) → number_at done task ≡ last_that (has_done task) marks

-- both are known
pub record AreKnown (bars : Bars) : Type 0 where
  pub last : KnowLast bars.lasts bars.marks
  pub done_by : KnowDone bars.done bars.marks
