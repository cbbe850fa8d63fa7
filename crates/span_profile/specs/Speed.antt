-- Schedules of the entries of a run on several workers.
use Rattle.std.specs.Prelude.{ℕ, List, length}
use Rattle.seg_journal.specs.declared.journal.Entry.{Entry}
use Rattle.twe_base.specs.Limits.{Bounds}
use Rattle.twe_program.specs.Program.{Program}
use Rattle.span_profile.specs.LeadsTo.{LeadsTo}
use Rattle.span_profile.specs.Strands.{strands, weight_of}
use Rattle.span_profile.specs.heaviest_chain.Chains.{Leads, weight_at}
use Rattle.schedules.specs.Schedules.{IsGreedy, IsSchedule, length_of}
use Rattle.schedules.specs.Timetables.{IsTimetable, Slot}

-- the weight of the entry of this number
abbrev pub entry_weight : Program → Bounds → List Entry → ℕ → ℕ
entry_weight p lim journal entry = weight_at weight_of (strands p lim journal) entry

-- the first entry leads to the second
abbrev pub EntryLeads : Program → Bounds → List Entry → ℕ → ℕ → Type 0
EntryLeads p lim journal entry next = Leads LeadsTo (strands p lim journal) entry next

-- a schedule of the entries on so many workers: what leads to another ends before that starts
abbrev pub IsRunSchedule : Program → Bounds → List Entry → ℕ → (ℕ → ℕ) → Type 0
IsRunSchedule p lim journal workers start =
    IsSchedule (EntryLeads p lim journal) (entry_weight p lim journal) (length (strands p lim journal)) workers start

-- one in which no worker is idle while an entry could run
abbrev pub IsGreedyRun : Program → Bounds → List Entry → ℕ → (ℕ → ℕ) → Type 0
IsGreedyRun p lim journal workers start =
    IsGreedy (EntryLeads p lim journal) (entry_weight p lim journal) (length (strands p lim journal)) workers start

-- the time that a schedule of the entries takes
abbrev pub run_time : Program → Bounds → List Entry → (ℕ → ℕ) → ℕ
run_time p lim journal start = length_of (entry_weight p lim journal) start (length (strands p lim journal))

-- a timetable of the entries on so many workers: what leads to another ends before that starts
abbrev pub IsRunTimetable : Program → Bounds → List Entry → ℕ → List Slot → Type 0
IsRunTimetable p lim journal workers slots =
    IsTimetable (EntryLeads p lim journal) (entry_weight p lim journal) (length (strands p lim journal)) workers slots
