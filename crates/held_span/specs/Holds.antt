-- Which admissions were held, for how long and by whom, if the entries of a run start and end at these times.
use Rattle.std.specs.Prelude.{◌≡◌, ◌<◌, ◌≤◌, ◌+◌, ℕ, List, Some, map, slice_get, slice_index}
use Rattle.std.specs.List.{All, Contains}
use Rattle.std.specs.List.Sorted.{IsStrictlyIncreasing}
use Rattle.seg_journal.specs.declared.moves.Kind.TheVariants.{Admit}
use Rattle.machine_state.specs.declared.state.TaskRow.{TaskRow}
use Rattle.span_profile.specs.heaviest_chain.Chains.{Leads}
use Rattle.held_span.specs.Freed.{Frees, FreesFrom, RunEntry}
use Rattle.held_span.specs.declared.hold.Hold.{Hold}

-- The entry of this number admits the task.
pub record AdmitsTask (stages : List RunEntry) (number task : ℕ) : Type 0 where
  pub entry : RunEntry
  pub there : slice_get stages number ≡ Some entry
  pub kind : entry.kind ≡ Admit
  pub task_is : entry.strand.task ≡ task

-- The entry of this number has made the task.
pub record MakesTask (stages : List RunEntry) (number task : ℕ) : Type 0 where
  pub entry : RunEntry
  pub there : slice_get stages number ≡ Some entry
  pub made : entry.strand.made ≡ Some task

-- The entry of this number admits the task. It starts later than the one that made the task ended, by this time.
pub record IsHeldFor (stages : List RunEntry) (starts ends : List ℕ) (number task time : ℕ) : Type 0 where
  pub admits : AdmitsTask stages number task
  pub maker : ℕ
  pub makes : MakesTask stages maker task
  pub time_is : slice_index ends maker + time ≡ slice_index starts number
  pub some : 0 < time

-- The admission was held for the time of the hold: until the entry ended that freed it from the holder. Of the entries that free
-- it and end as it begins this one is the first, and of the tasks from which it frees it the holder is the lowest.
pub record IsHold (rows : List TaskRow) (stages : List RunEntry) (starts ends : List ℕ) (hold : Hold) : Type 0 where
  pub held : IsHeldFor stages starts ends hold.entry hold.task hold.time
  pub frees : Leads (FreesFrom rows hold.holder) stages hold.freed_by hold.entry
  pub until : slice_index ends hold.freed_by ≡ slice_index starts hold.entry
  pub first : (other : ℕ) → Leads (Frees rows) stages other hold.entry → slice_index ends other ≡ slice_index starts hold.entry
      → hold.freed_by ≤ other
  pub lowest : (other : ℕ) → Leads (FreesFrom rows other) stages hold.freed_by hold.entry → hold.holder ≤ other

-- the number of the admission that was held
abbrev pub held_entry : Hold → ℕ
held_entry hold = hold.entry

-- These are holds, in the order of their admissions, and there is one for each admission that was held.
pub record AreHolds (rows : List TaskRow) (stages : List RunEntry) (starts ends : List ℕ) (holds : List Hold) : Type 0 where
  pub each : All (IsHold rows stages starts ends) holds
  pub in_order : IsStrictlyIncreasing (map held_entry holds)
  pub all : (number task time : ℕ) → IsHeldFor stages starts ends number task time → Contains (map held_entry holds) number
