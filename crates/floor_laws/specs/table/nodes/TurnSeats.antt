-- Taking and giving a turn on a table with nodes: what the seat needs, and what it knows afterwards.
use Rattle.std.specs.Prelude.{◌≡◌, ◌≢◌, ◌⊎◌, ℕ, false, List, ◌∷◌, Some, None}
use Rattle.region_paths.specs.declared.elements.Elem.{Elem}
use Rattle.twe_base.specs.Limits.{Bounds}
use Rattle.twe_program.specs.Program.{Program}
use Rattle.machine_state.specs.declared.state.TaskStatus.TheVariants as status
use Rattle.floor_laws.specs.declared.rule.view.HeldTurn.{HeldTurn}
use Rattle.floor_laws.specs.rule.Rows.{phase_of, slot_of}
use Rattle.floor_laws.specs.rule.Steps.{with_row}
use Rattle.floor_laws.specs.table.Alone.{IsFreeIfAlone}
use Rattle.floor_laws.specs.table.FloorOf.{turn_in}
use Rattle.floor_laws.specs.table.Layout.{free_word, turn_place}
use Rattle.floor_laws.specs.table.Tells.{MayGiveTurn, with_turn}
use Rattle.floor_laws.specs.admission.admission_core.States.{IsAmong, Record}
use Rattle.floor_laws.specs.rule.nodes.Taking.{clear_after_taking}
use Rattle.floor_laws.specs.rule.nodes.TurnSteps.{HasPlacedChildren, MayGiveFirst, MayGiveTaken, of_others}
use Rattle.floor_laws.specs.declared.table.nodes.slot.TreeSlot.{TreeSlot}
use Rattle.floor_laws.specs.declared.table.nodes.slot.TreeSlot.TheVariants as kinds
use Rattle.floor_laws.specs.declared.table.nodes.view.Look.TheVariants.{AtTurn}
use Rattle.floor_laws.specs.declared.table.nodes.view.TreeView.{TreeView}
use Rattle.floor_laws.specs.table.nodes.FloorSeats.{floor_seat, tasks_out}
use Rattle.floor_laws.specs.table.nodes.Looks.{looked_seat}
use Rattle.floor_laws.specs.table.nodes.Plays.{TreeStep}
use Rattle.floor_laws.specs.table.nodes.Seats.{TreeSeat, tree_seen, turns_seen}

-- Taking.

-- the seat has the turn, and unless the task is enabled it knows that no record of the task's effects stands
abbrev pub taken_tree_view : List (List Elem) → TreeView → ℕ → HeldTurn → TreeView
taken_tree_view nodes v t turn = record v {
  floor = with_turn v.floor t (Some turn);
  clear = clear_after_taking nodes t turn.row.status turn.row.effects.effects v.clear;
}

-- The seat has the turn and the task's slot. It did not have the turn before, nor a first turn of a child of the task, and has
-- placed no record of the task since it last got a turn of it. The phase word is the one of the task's row, and the frame of a
-- done task has its value.
pub record TookTreeTurn (nodes : List (List Elem)) (before : TreeSeat) (t : ℕ) (after : TreeSeat) : Type 0 where
  pub had_none : turn_in before.0.floor.turns t ≡ None
  pub turn : HeldTurn
  pub taken : turn.first ≡ false
  pub phase : turn.phase ≡ phase_of turn.row
  pub value : turn.row.status ≡ status.Done → turn.row.frame.value ≡ turn.row.value
  pub fresh : (r : Record) → IsAmong r before.0.fresh → r.task ≢ t
  pub children : HasPlacedChildren (turns_seen before.0) 0 t
  pub seat : after ≡ (taken_tree_view nodes before.0 t turn, (t, kinds.Task (Some (slot_of turn.row))) ∷ before.1)

-- if the turn word was free, the seat has the turn; otherwise it knows that it looked and what it found, and nothing else changes
abbrev pub TriedTreeTurn : List (List Elem) → TreeSeat → ℕ → ℕ → TreeSeat → Type 0
TriedTreeTurn nodes before t found after =
    ((found ≡ free_word) × TookTreeTurn nodes before t after)
    ⊎ ((found ≢ free_word) × (after ≡ looked_seat before (AtTurn t found)))

-- a compare-exchange of the turn word of some task tries to take its turn, and finds it free if the seat is the only one
abbrev pub TriesTreeTurn : List (List Elem) → Program → Bounds → TreeStep → TreeSeat → ℕ → TreeSeat → Type 0
TriesTreeTurn nodes p lim s before found after =
    (t : ℕ) → s.word ≡ turn_place p t → TriedTreeTurn nodes before t found after × IsFreeIfAlone p lim before.0.floor t found

-- Giving.

-- of the nodes a seat knows enough to give this turn, which it took, or which is the first one of a task that it made
pub data MayLeaveTask (nodes : List (List Elem)) (v : TreeView) (t : ℕ) (turn : HeldTurn) : Type 0 where
  gives_taken : MayGiveTaken nodes (turns_seen v) (tree_seen v) 0 t turn → MayLeaveTask nodes v t turn
  gives_first : MayGiveFirst nodes (turns_seen v) (tree_seen v) 0 t turn → MayLeaveTask nodes v t turn

-- The seat may give the turn, as a seat of the floor may. The task's slot is its latest, and it has the other ones left.
pub record MayGiveTreeTurn (nodes : List (List Elem)) (me : TreeSeat) (t : ℕ) (turn : HeldTurn)
    (rest : List (ℕ × TreeSlot)) : Type 0 where
  pub floor : MayGiveTurn (floor_seat me) t turn (tasks_out rest)
  pub slot : me.1 ≡ (t, kinds.Task (Some (slot_of turn.row))) ∷ rest
  pub leaves : MayLeaveTask nodes me.0 t turn

-- the seat has given the turn. If the task is done, it knows its value. It knows nothing of records of the task any more.
abbrev pub given_tree_view : TreeView → ℕ → HeldTurn → TreeView
given_tree_view v t turn = record v {
  floor = record (with_turn v.floor t None) { done = with_row turn.row.status t turn.row v.floor.done };
  fresh = of_others t v.fresh;
  clear = of_others t v.clear;
}

-- the seat has given the turn, and the slots that it has out beside the task's are left
abbrev pub GaveTreeTurn : TreeSeat → ℕ → HeldTurn → List (ℕ × TreeSlot) → TreeSeat → Type 0
GaveTreeTurn before t turn rest after = after ≡ (given_tree_view before.0 t turn, rest)

-- a store to the turn word of a task whose turn the seat may give gives it
abbrev pub GivesTreeTurn : List (List Elem) → Program → TreeStep → TreeSeat → ℕ → TreeSeat → Type 0
GivesTreeTurn nodes p s before found after =
    (t : ℕ) (turn : HeldTurn) (rest : List (ℕ × TreeSlot)) → s.word ≡ turn_place p t → MayGiveTreeTurn nodes before t turn rest
    → GaveTreeTurn before t turn rest after
