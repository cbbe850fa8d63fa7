-- Entries on a table with nodes, drawn by a step on the clock: what the step tells the seat that takes it.
use Rattle.std.specs.Prelude.{◌≡◌, ◌≢◌, ◌+◌, ◌++◌, ◌<◌, ℕ, List, [], ◌∷◌, Some}
use Rattle.region_paths.specs.declared.elements.Elem.{Elem}
use Rattle.twe_base.specs.Limits.{Bounds}
use Rattle.seg_journal.specs.declared.journal.End.TheVariants.{Admitted}
use Rattle.seg_journal.specs.declared.moves.Kind.TheVariants.{Admit}
use Rattle.twe_program.specs.Program.{Program}
use Rattle.machine_state.specs.Moves.{admitted_row}
use Rattle.seg_journal.specs.declared.numbered.NumberedEntry.{NumberedEntry}
use Rattle.floor_laws.specs.declared.rule.view.HeldTurn.{HeldTurn}
use Rattle.floor_laws.specs.table.Layout.{asked_of_clock, entries_of_clock}
use Rattle.floor_laws.specs.table.Tells.{DrewOne, IsLatest, with_turn}
use Rattle.floor_laws.specs.admission.admission_core.States.{IsAmong, Record}
use Rattle.floor_laws.specs.rule.nodes.AdmitSteps.{MayDrawAdmission}
use Rattle.floor_laws.specs.declared.table.nodes.view.TreeView.{TreeView}
use Rattle.floor_laws.specs.table.nodes.FloorSeats.{TellsFloor, floor_seat}
use Rattle.floor_laws.specs.table.nodes.Seats.{TreeSeat, tree_seen, turns_seen}

-- Entries of segments.

-- if one more task may be made, the seat has placed no record of it
abbrev pub HasNoneOfNext : Bounds → TreeView → ℕ → Type 0
HasNoneOfNext lim v found =
    asked_of_clock found + 1 < lim.tasks → (r : Record) → IsAmong r v.fresh → r.task ≢ asked_of_clock found + 1

-- The step tells the floor's seat what an entry tells it. Of nodes the seat knows what it knew, which is nothing of the task that
-- was made.
abbrev pub DrewTreeEntry : Program → Bounds → TreeSeat → ℕ → TreeSeat → Type 0
DrewTreeEntry p lim before found after =
    TellsFloor (DrewOne p lim (floor_seat before)) before found after × HasNoneOfNext lim before.0 found

-- Entries of admissions.

-- the entry of task t's admission, if the clock said this
abbrev pub admission_at : ℕ → ℕ → NumberedEntry
admission_at clock t = record {
  number = entries_of_clock clock;
  entry = record { mv = record { kind = Admit; task = t }; end = Admitted };
  prints = [];
}

-- the seat has the entry, and knows that the task is enabled
abbrev pub admitted_view : ℕ → TreeView → ℕ → HeldTurn → TreeView
admitted_view clock v t turn = record v {
  floor = record (with_turn v.floor t (Some (record turn { row = admitted_row turn.row }))) {
    part = v.floor.part ++ admission_at clock t ∷ [];
  };
}

-- The seat may draw the admission of the task whose turn is this one, and whose slot is the latest that it has out.
pub record MayAdmitLatest (nodes : List (List Elem)) (me : TreeSeat) (t : ℕ) (turn : HeldTurn) : Type 0 where
  pub latest : IsLatest (floor_seat me) t
  pub has : turns_seen me.0 0 t ≡ Some turn
  pub may : MayDrawAdmission nodes (turns_seen me.0) (tree_seen me.0) 0 t

-- Whatever task the seat may admit, it has drawn that one's admission; there is one at most. Its slots are as they were.
abbrev pub DrewAdmission : List (List Elem) → TreeSeat → ℕ → TreeSeat → Type 0
DrewAdmission nodes before found after =
    (t : ℕ) (turn : HeldTurn) → MayAdmitLatest nodes before t turn → after ≡ (admitted_view found before.0 t turn, before.1)
