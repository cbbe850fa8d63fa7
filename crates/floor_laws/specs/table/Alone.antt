-- What a seat knows that is the only one. All entries are its own, and whatever turn it does not have is free.
use Rattle.std.specs.Prelude.{◌≡◌, ℕ, List, [], ◌∷◌, Option, None, Some}
use Rattle.twe_base.specs.Limits.{Bounds}
use Rattle.twe_program.specs.Program.{Program}
use Rattle.twe_program.specs.WellFormed.{IsWellFormed}
use Rattle.wait_graph.specs.Link.{link_of}
use Rattle.machine_state.specs.declared.state.State.{State}
use Rattle.machine_state.specs.declared.state.TaskRow.{TaskRow}
use Rattle.machine_state.specs.Rows.{IsRow}
use Rattle.machine_state.specs.Runs.{IsReached, state_after}
use Rattle.seg_journal.specs.declared.numbered.NumberedEntry.{NumberedEntry}
use Rattle.seg_journal.specs.Merging.{AreNumbered, IsMergeOf, journal_of}
use Rattle.floor_laws.specs.declared.rule.view.HeldTurn.{HeldTurn}
use Rattle.floor_laws.specs.declared.rule.view.Phase.{Phase}
use Rattle.floor_laws.specs.declared.rule.view.Phase.TheVariants.{Absent, Made, Running, Waits, Done, Faulted}
use Rattle.floor_laws.specs.rule.Fitting.{IsMade}
use Rattle.floor_laws.specs.rule.Rows.{phase_of, unmarked}
use Rattle.floor_laws.specs.declared.table.view.SeatKind.TheVariants.{Main}
use Rattle.floor_laws.specs.declared.table.view.View.{View}
use Rattle.floor_laws.specs.table.FloorOf.{turn_in}
use Rattle.floor_laws.specs.table.Layout.{free_word, phase_of_word}

-- The seat is the only one: it is the main one, and each seat that was split off was joined to it again. Its entries, in the
-- order of their numbers, are the journal, and lead to this state.
pub record IsAloneAt (p : Program) (lim : Bounds) (v : View) (st : State) : Type 0 where
  pub main : v.kind ≡ Main
  pub none_out : v.out ≡ 0
  pub log : List NumberedEntry
  pub numbered : AreNumbered (v.part ∷ [])
  pub merge : IsMergeOf (v.part ∷ []) log
  pub leads : st ≡ state_after p lim (journal_of log)

-- If the seat is the only one, task t was made, and the seat does not have its turn, then this turn word says that the turn
-- is free.
abbrev pub IsFreeIfAlone : Program → Bounds → View → ℕ → ℕ → Type 0
IsFreeIfAlone p lim v t found =
    (st : State) → IsAloneAt p lim v st → turn_in v.turns t ≡ None → IsMade st t → found ≡ free_word

-- If the seat is the only one, and does not have the turn of task t, then this phase word says the phase that the last entry of t
-- has left.
abbrev pub IsLastIfAlone : Program → Bounds → View → ℕ → ℕ → Type 0
IsLastIfAlone p lim v t found =
    (st : State) (row : TaskRow) → IsAloneAt p lim v st → turn_in v.turns t ≡ None → IsRow st t row
    → phase_of_word found ≡ phase_of row

-- whom a task with this phase waits for
abbrev pub awaited_by : Phase → Option ℕ
awaited_by Absent = None
awaited_by Made = None
awaited_by Running = None
awaited_by (Waits u) = Some u
awaited_by Done = None
awaited_by Faulted = None

-- If the seat is the only one, and does not have the turn of task t, then this phase word says what the task's next operation
-- awaits.
abbrev pub SaysWaitIfAlone : Program → Bounds → View → ℕ → ℕ → Type 0
SaysWaitIfAlone p lim v t found =
    (st : State) → IsAloneAt p lim v st → turn_in v.turns t ≡ None
    → (link_of st.links t).waits ≡ awaited_by (phase_of_word found)

-- If the seat is the only one, what it knows of a task whose turn it has is the task's row, but for the mark that it was joined.
abbrev pub KnowsRowsIfAlone : Program → Bounds → View → Type 0
KnowsRowsIfAlone p lim v =
    (st : State) (t : ℕ) (turn : HeldTurn) (row : TaskRow) → IsAloneAt p lim v st → turn_in v.turns t ≡ Some turn → IsRow st t row
    → unmarked row ≡ turn.row

-- If the seat is the only one, its journal is legal.
abbrev pub IsLegalIfAlone : Program → Bounds → View → Type 0
IsLegalIfAlone p lim v = (st : State) → IsAloneAt p lim v st → IsWellFormed p × IsReached p lim st
