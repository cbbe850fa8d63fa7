-- Timetables: when each entry runs on several processors. An entry has an earliest time, before which it cannot start however
-- many processors there are. In a paced timetable entries come in the order of these times, each starts as soon as a
-- processor is free, and none is delayed less than the one before.
use Rattle.std.specs.Prelude.{◌≡◌, ◌<◌, ◌≤◌, ◌+◌, ◌-◌, ◌++◌, ◌⊎◌, ℕ, zero, suc, List, [], ◌∷◌, length, map, max, slice_index, if◌then◌else◌}
use Rattle.std.specs.List.{Contains}
use Rattle.std.specs.List.Sorted.{IsPermutation}
use Rattle.schedules.specs.Schedules.{runs_in}
use Rattle.schedules.specs.declared.pacing.PacedJob.{PacedJob}

-- an entry, and when it starts
pub record Slot : Type 0 where
  pub job : PacedJob
  pub start : ℕ

-- when an entry has ended
abbrev pub slot_end : Slot → ℕ
slot_end slot = slot.start + slot.job.weight

-- how many of these entries run in the step
abbrev pub busy_in : List Slot → ℕ → ℕ
busy_in [] step = 0
busy_in (slot ∷ slots) step = (if runs_in slot.start slot.job.weight step then 1 else 0) + busy_in slots step

-- the length of a timetable: the number of steps until the last of these entries has ended
abbrev pub time_of : List Slot → ℕ
time_of [] = 0
time_of (slot ∷ slots) = max (time_of slots) (slot_end slot)

-- how much later than at its earliest time the first of these entries starts
abbrev pub delay_of : List Slot → ℕ
delay_of [] = 0
delay_of (slot ∷ slots) = slot.start - slot.job.early

-- the entry is none of those before these: its earliest time is later, or the same, and its number is no lower
abbrev pub ComesAfter : List Slot → PacedJob → Type 0
ComesAfter [] job = Unit {0}
ComesAfter (slot ∷ slots) job = (slot.job.early < job.early) ⊎ ((slot.job.early ≡ job.early) × (slot.job.entry ≤ job.entry))

-- The entry starts in its turn: not before it may, with the delay of the one before, and then as soon as a processor is free.
pub record StartsNext (processors : ℕ) (slots : List Slot) (slot : Slot) : Type 0 where
  pub order : ComesAfter slots slot.job
  pub after : slot.job.early + delay_of slots ≤ slot.start
  pub free : busy_in slots slot.start < processors
  pub full : (step : ℕ) → slot.job.early + delay_of slots ≤ step → step < slot.start → processors ≤ busy_in slots step

-- each of these entries starts in its turn; the last one stands first
abbrev pub ArePaced : ℕ → List Slot → Type 0
ArePaced processors [] = Unit {0}
ArePaced processors (slot ∷ slots) = StartsNext processors slots slot × ArePaced processors slots

-- the entry of this number, which could start and end at these times
abbrev pub job_at : List ℕ → List ℕ → ℕ → PacedJob
job_at starts ends entry = record {
  early = slice_index starts entry;
  entry = entry;
  weight = slice_index ends entry - slice_index starts entry;
}

-- the first entries, of which there are so many
abbrev pub jobs_below : List ℕ → List ℕ → ℕ → List PacedJob
jobs_below starts ends zero = []
jobs_below starts ends (suc entry) = jobs_below starts ends entry ++ job_at starts ends entry ∷ []

-- the entry of a slot
abbrev pub job_of : Slot → PacedJob
job_of slot = slot.job

-- The paced timetable of entries that could start and end at these times takes this time.
pub record IsPacedTime (starts ends : List ℕ) (processors time : ℕ) : Type 0 where
  pub slots : List Slot
  pub paced : ArePaced processors slots
  pub whole : IsPermutation (jobs_below starts ends (length starts)) (map job_of slots)
  pub time_is : time ≡ time_of slots

-- These are the earliest times of entries with these weights: what leads to another ends before that starts, and an entry
-- starts at 0, or as one ends that leads to it. None ends after the span, and one ends there, if the span is not 0.
pub record AreEarliest (Leads : ℕ → ℕ → Type 0) (weight : ℕ → ℕ) (count span : ℕ) (starts ends : List ℕ) : Type 0 where
  pub starts_count : length starts ≡ count
  pub ends_count : length ends ≡ count
  pub takes : (entry : ℕ) → entry < count → slice_index ends entry ≡ slice_index starts entry + weight entry
  pub some : (entry : ℕ) → entry < count → 0 < weight entry
  pub ordered : (entry next : ℕ) → entry < count → next < count → Leads entry next
      → slice_index ends entry ≤ slice_index starts next
  pub tight : (entry : ℕ) → entry < count → (slice_index starts entry ≡ 0)
      ⊎ ((before : ℕ) × (before < count) × Leads before entry × (slice_index ends before ≡ slice_index starts entry))
  pub within : (entry : ℕ) → entry < count → slice_index ends entry ≤ span
  pub reached : (span ≡ 0) ⊎ ((entry : ℕ) × (entry < count) × (slice_index ends entry ≡ span))

-- A timetable has one slot for each entry. What leads to another ends before that starts, and at no step do more entries run than
-- there are processors.
pub record IsTimetable (Leads : ℕ → ℕ → Type 0) (weight : ℕ → ℕ) (count processors : ℕ) (slots : List Slot) : Type 0 where
  pub as_many : length slots ≡ count
  pub each : (entry : ℕ) → entry < count → (slot : Slot) × Contains slots slot × (slot.job.entry ≡ entry)
  pub takes : (slot : Slot) → Contains slots slot → slot.job.weight ≡ weight slot.job.entry
  pub ordered : (slot next : Slot) → Contains slots slot → Contains slots next → Leads slot.job.entry next.job.entry
      → slot_end slot ≤ next.start
  pub few : (step : ℕ) → busy_in slots step ≤ processors
