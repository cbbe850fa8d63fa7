-- Runs: the legal journals, the states that they lead to, and the outcome of a run.
use Rattle.std.specs.Prelude.{◌≡◌, ◌⊎◌, ◌<◌, ◌≤◌, ◌==◌, ◌&&◌, ℕ, List, [], ◌∷◌, length, take, Bool, true, false, None, Some, count_by, if◌then◌else◌, is_some}
use Rattle.seg_journal.specs.declared.journal.End.{End}
use Rattle.seg_journal.specs.declared.journal.End.TheVariants.{Admitted, Made, Waits, Joins}
use Rattle.seg_journal.specs.declared.journal.End.TheVariants as ends
use Rattle.seg_journal.specs.declared.journal.Entry.{Entry}
use Rattle.seg_journal.specs.declared.moves.Kind.{Kind}
use Rattle.seg_journal.specs.declared.moves.Kind.TheVariants.{Admit, Run}
use Rattle.seg_journal.specs.declared.moves.Move.{Move}
use Rattle.twe_base.specs.Limits.{Bounds}
use Rattle.twe_program.specs.Program.{Program}
use Rattle.machine_state.specs.declared.ending.Outcome.{Outcome}
use Rattle.machine_state.specs.declared.ending.Outcome.TheVariants.{AllDone, Fault, Stuck, Unfinished}
use Rattle.machine_state.specs.declared.state.State.{State}
use Rattle.machine_state.specs.declared.state.TaskRow.{TaskRow}
use Rattle.machine_state.specs.declared.state.TaskStatus.TheVariants.{Done}
use Rattle.machine_state.specs.Legal.{MayMove, Isolated}
use Rattle.machine_state.specs.Moves.{move_result, start_of}
use Rattle.machine_state.specs.Rows.{IsRow}

-- the state after the moves of these entries
abbrev pub replayed : Program → Bounds → State → List Entry → State
replayed p lim st [] = st
replayed p lim st (entry ∷ entries) = replayed p lim (move_result p lim st entry.mv).0 entries

-- each move is legal after those before it, and each entry has the end that its move gives
abbrev pub LegalFrom : Program → Bounds → State → List Entry → Type 0
LegalFrom p lim st [] = Unit {0}
LegalFrom p lim st (entry ∷ entries) =
    MayMove st entry.mv × ((move_result p lim st entry.mv).1 ≡ entry.end)
    × LegalFrom p lim (move_result p lim st entry.mv).0 entries

-- the journal is one of the program under these limits
abbrev pub Legal : Program → Bounds → List Entry → Type 0
Legal p lim journal = LegalFrom p lim (start_of p lim) journal

-- the state that the journal leads to
abbrev pub state_after : Program → Bounds → List Entry → State
state_after p lim journal = replayed p lim (start_of p lim) journal

-- the journal is legal, and leads to this state
pub record IsRun (p : Program) (lim : Bounds) (journal : List Entry) (st : State) : Type 0 where
  pub legal : Legal p lim journal
  pub same : st ≡ state_after p lim journal

-- the entry for a move in this state
abbrev pub entry_of : Program → Bounds → State → Move → Entry
entry_of p lim st mv = record { mv = mv; end = (move_result p lim st mv).1 }

-- some legal journal leads to this state
pub record IsReached (p : Program) (lim : Bounds) (st : State) : Type 0 where
  pub journal : List Entry
  pub legal : Legal p lim journal
  pub same : st ≡ state_after p lim journal

-- some legal journal leads to this state, under some limits
abbrev pub IsReachable : Program → State → Type 0
IsReachable p st = (lim : Bounds) × IsReached p lim st

-- every task that was made is done
abbrev pub AllTasksDone : State → Type 0
AllTasksDone st = (t : ℕ) (row : TaskRow) → IsRow st t row → row.status ≡ Done

-- this is the outcome of a run that has come to this state: its first fault; or else all tasks are done; or else no
-- move is legal, or some move is
abbrev pub IsOutcome : State → Outcome → Type 0
IsOutcome st (Fault task kind place) = st.first_fault ≡ Some (record { task = task; kind = kind; place = place })
IsOutcome st AllDone = (st.first_fault ≡ None) × AllTasksDone st
IsOutcome st Stuck = (st.first_fault ≡ None) × ¬ AllTasksDone st × ((mv : Move) → ¬ MayMove st mv)
IsOutcome st Unfinished = (st.first_fault ≡ None) × ¬ AllTasksDone st × ((mv : Move) × MayMove st mv)

-- whether a move with this end met a fault
abbrev pub is_fault : End → Bool
is_fault (ends.Fault kind place) = true
is_fault _ = false

-- the part of a journal that counts: up to its first fault, or all of it if there is none
abbrev pub counted : List Entry → List Entry
counted [] = []
counted (entry ∷ entries) = entry ∷ (if is_fault entry.end then [] else counted entries)

-- after each beginning of the journal, of two enabled tasks that interfere one yields to the other
abbrev pub AlwaysIsolated : Program → Bounds → List Entry → Type 0
AlwaysIsolated p lim journal = (n : ℕ) → n ≤ length journal → Isolated (state_after p lim (take n journal))

-- whether a move with this end made task t
abbrev pub makes_task : ℕ → End → Bool
makes_task t (Made child) = child == t
makes_task t _ = false

-- whether a move with this end finished its task
abbrev pub is_done : End → Bool
is_done (ends.Done value) = true
is_done _ = false

-- whether a move of this kind is an admission
abbrev pub is_admission : Kind → Bool
is_admission Admit = true
is_admission Run = false

-- the entry made task t
abbrev pub makes : ℕ → Entry → Bool
makes t entry = makes_task t entry.end

-- the entry admitted task t
abbrev pub admits : ℕ → Entry → Bool
admits t entry = is_admission entry.mv.kind && (entry.mv.task == t)

-- the entry finished task t
abbrev pub finishes : ℕ → Entry → Bool
finishes t entry = is_done entry.end && (entry.mv.task == t)

-- Each task of a state was made, enabled and finished exactly once in the journal that led to it. Task 0 is there
-- from the start, so no entry made it. The entry that made a spawned task enabled it too, so no entry admitted it.
pub record EachOnce (journal : List Entry) (st : State) : Type 0 where
  pub made : (t : ℕ) → 0 < t → t < length st.tasks → count_by (makes t) journal ≡ 1
  pub no_other : (t : ℕ) → (t ≡ 0) ⊎ (length st.tasks ≤ t) → count_by (makes t) journal ≡ 0
  pub enabled : (t : ℕ) (row : TaskRow) → IsRow st t row → count_by (admits t) journal ≡ (if is_some row.parent then 0 else 1)
  pub done : (t : ℕ) → t < length st.tasks → count_by (finishes t) journal ≡ 1

-- Each task was made, enabled and finished at most once.
pub record EachAtMostOnce (journal : List Entry) : Type 0 where
  pub made : (t : ℕ) → count_by (makes t) journal ≤ 1
  pub enabled : (t : ℕ) → count_by (admits t) journal ≤ 1
  pub done : (t : ℕ) → count_by (finishes t) journal ≤ 1
