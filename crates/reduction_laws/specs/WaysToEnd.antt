-- How a run can end from a state on.
use Rattle.std.specs.Prelude.{◌≡◌, ℕ, ℤ, List, length}
use Rattle.twe_base.specs.Limits.{Bounds}
use Rattle.seg_journal.specs.declared.journal.Entry.{Entry}
use Rattle.twe_program.specs.Program.{Program}
use Rattle.machine_state.specs.declared.ending.Outcome.TheVariants.{AllDone, Stuck}
use Rattle.machine_state.specs.declared.state.State.{State}
use Rattle.machine_state.specs.Runs.{IsOutcome, LegalFrom, replayed}
use Rattle.determinism_laws.specs.Endings.{HasMetFault}

-- A way to end: with all tasks done, these cells, these printed numbers and so many tasks; or stuck; or with a fault, whichever it is.
pub data WayToEnd : Type 0 where
  all_done : (cells prints : List ℤ) (tasks : ℕ) → WayToEnd
  stuck : WayToEnd
  faulty : WayToEnd

-- a run that has come to this state has ended in this way
abbrev pub HasEndedSo : State → WayToEnd → Type 0
HasEndedSo st (all_done cells prints tasks) =
    IsOutcome st AllDone × (st.cells ≡ cells) × (st.prints ≡ prints) × (length st.tasks ≡ tasks)
HasEndedSo st stuck = IsOutcome st Stuck
HasEndedSo st faulty = HasMetFault st

-- Some legal moves lead from this state to one in which the run has ended in this way.
pub record CanEndSo (p : Program) (lim : Bounds) (st : State) (way : WayToEnd) : Type 0 where
  pub entries : List Entry
  pub legal : LegalFrom p lim st entries
  pub ended : HasEndedSo (replayed p lim st entries) way
