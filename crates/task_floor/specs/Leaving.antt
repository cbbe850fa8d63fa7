-- How a stand leaves a task: it stores the task's phase and gives its turn.
use Rattle.std.specs.Prelude.{◌≡◌, ◌⊎◌, ℕ, List, ◌∷◌, None, Some}
use Rattle.region_paths.specs.declared.elements.Elem.{Elem}
use Rattle.machine_state.specs.declared.state.TaskStatus.TheVariants as status
use Rattle.machine_state.specs.Moves.{status_at_start}
use Rattle.floor_laws.specs.declared.rule.view.HeldTurn.{HeldTurn}
use Rattle.floor_laws.specs.declared.rule.view.Phase.{Phase}
use Rattle.floor_laws.specs.declared.rule.view.TaskSlot.{TaskSlot}
use Rattle.floor_laws.specs.rule.Rows.{phase_of}
use Rattle.floor_laws.specs.table.Tells.{with_turn}
use Rattle.task_floor.specs.steps.Leaving.{MayLeave}
use Rattle.floor_laws.specs.declared.table.nodes.slot.TreeSlot.{TreeSlot}
use Rattle.floor_laws.specs.declared.table.nodes.slot.TreeSlot.TheVariants as kinds
use Rattle.floor_laws.specs.declared.table.nodes.view.TreeView.{TreeView}
use Rattle.floor_laws.specs.table.nodes.FloorSeats.{floor_seat, tasks_out}
use Rattle.floor_laws.specs.table.nodes.Seats.{TreeSeat}
use Rattle.floor_laws.specs.table.nodes.TurnSeats.{MayLeaveTask, given_tree_view}

-- The seat may leave task t with this in its slot, as a seat of the floor may. The slot is empty and the latest that the seat has
-- out. Of the nodes the seat knows enough to give the turn.
pub record MayGoFrom (nodes : List (List Elem)) (me : TreeSeat) (t : ℕ) (slot : TaskSlot) (turn : HeldTurn)
    (rest : List (ℕ × TreeSlot)) : Type 0 where
  pub floor : MayLeave (floor_seat me) t slot turn (tasks_out rest)
  pub out : me.1 ≡ (t, kinds.Task None) ∷ rest
  pub leaves : MayLeaveTask nodes me.0 t turn

-- the seat may leave task t, which is enabled
pub record MayParkTask (nodes : List (List Elem)) (me : TreeSeat) (t : ℕ) (slot : TaskSlot) (turn : HeldTurn)
    (rest : List (ℕ × TreeSlot)) : Type 0 where
  pub may : MayGoFrom nodes me t slot turn rest
  pub enabled : turn.row.status ≡ status.Enabled

-- the seat may leave task t, which has ended; this is the phase of its row
pub record MayFinishTask (nodes : List (List Elem)) (me : TreeSeat) (t : ℕ) (slot : TaskSlot) (phase : Phase) (turn : HeldTurn)
    (rest : List (ℕ × TreeSlot)) : Type 0 where
  pub may : MayGoFrom nodes me t slot turn rest
  pub ended : (turn.row.status ≡ status.Done) ⊎ (turn.row.status ≡ status.Faulted)
  pub phase_is : phase ≡ phase_of turn.row

-- the seat may leave task t, which was made and is as it was then
pub record MayGiveNew (nodes : List (List Elem)) (me : TreeSeat) (t : ℕ) (slot : TaskSlot) (turn : HeldTurn)
    (rest : List (ℕ × TreeSlot)) : Type 0 where
  pub may : MayGoFrom nodes me t slot turn rest
  pub new : turn.row.status ≡ status_at_start turn.row.parent

-- the view of a seat that has stored the phase of the row of task t
abbrev pub stored_view : TreeView → ℕ → HeldTurn → TreeView
stored_view v t turn = record v { floor = with_turn v.floor t (Some (record turn { phase = phase_of turn.row })) }

-- The seat has left task t: it has stored the phase of the task's row, and given the turn. Of records of the task it knows
-- nothing any more. Its other turns, its entries and its segment are as before. If the task is done, the seat knows its value
-- from then on.
abbrev pub HasLeftTask : TreeSeat → ℕ → HeldTurn → List (ℕ × TreeSlot) → TreeSeat → Type 0
HasLeftTask before t turn rest after = after ≡ (given_tree_view (stored_view before.0 t turn) t turn, rest)
