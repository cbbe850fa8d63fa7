-- How runs of a program end.
use Rattle.std.specs.Prelude.{◌≡◌, ◌⊎◌, ℕ, List, Some, length}
use Rattle.twe_base.specs.declared.place.Place.{Place}
use Rattle.twe_base.specs.declared.fault.FaultKind.{FaultKind}
use Rattle.twe_base.specs.Limits.{Bounds}
use Rattle.seg_journal.specs.declared.journal.Entry.{Entry}
use Rattle.twe_program.specs.Program.{Program}
use Rattle.machine_state.specs.declared.ending.Outcome.TheVariants.{AllDone}
use Rattle.machine_state.specs.declared.state.FirstFault.{FirstFault}
use Rattle.machine_state.specs.declared.state.State.{State}
use Rattle.machine_state.specs.Runs.{AllTasksDone, IsOutcome, Legal, LegalFrom, replayed, state_after}
use Rattle.determinism_laws.specs.elision.Elision.{Ending, ends, fails, goes_on, strays}
use Rattle.determinism_laws.specs.results.Main.{HaveSameResult}

-- Some run of the program under these limits is whole: it ends with all tasks done.
pub record SomeRunFinishes (p : Program) (lim : Bounds) : Type 0 where
  pub journal : List Entry
  pub legal : Legal p lim journal
  pub done : AllTasksDone (state_after p lim journal)

-- Some run of the program under these limits has this kind of fault at this place of the text as its first fault.
pub record IsFaultOfRun (p : Program) (lim : Bounds) (kind : FaultKind) (place : Place) : Type 0 where
  pub journal : List Entry
  pub legal : Legal p lim journal
  pub task : ℕ
  pub fault : (state_after p lim journal).first_fault ≡ Some (record { task = task; kind = kind; place = place })

-- Some legal moves lead from this state to one in which all tasks are done.
pub record CanFinish (p : Program) (lim : Bounds) (st : State) : Type 0 where
  pub entries : List Entry
  pub legal : LegalFrom p lim st entries
  pub done : AllTasksDone (replayed p lim st entries)

-- the run has met a fault
abbrev pub HasMetFault : State → Type 0
HasMetFault st = (fault : FirstFault) × (st.first_fault ≡ Some fault)

-- A run that has come to this state has ended as this sequential execution of `main` does: if the execution ends with a value,
-- all tasks are done, and the cells, the printed numbers and the number of tasks are those of the execution; if it meets a
-- fault, the run has met a fault. It is no execution that strays or goes on.
abbrev pub HasEndedAs : State → Ending → Type 0
HasEndedAs st (ends value later) =
    IsOutcome st AllDone × (st.cells ≡ later.cells) × (st.prints ≡ later.prints)
    × (length st.tasks ≡ length later.values)
HasEndedAs st (fails kind place) = HasMetFault st
HasEndedAs st strays = ⊥
HasEndedAs st goes_on = ⊥

-- two runs that have come to these states have ended alike: with all tasks done and the same result, or both with a fault
abbrev pub HaveEndedAlike : State → State → Type 0
HaveEndedAlike one other =
    (IsOutcome one AllDone × IsOutcome other AllDone × HaveSameResult one other) ⊎ (HasMetFault one × HasMetFault other)
