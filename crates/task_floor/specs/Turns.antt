-- Taking and giving the turn of a task beside the nodes. The slot of a task is empty while a worker has its turn, since what lay
-- in it was handed out.
use Rattle.std.specs.Prelude.{◌≡◌, ◌≢◌, ℕ, List, ◌∷◌, Option, None}
use Rattle.region_paths.specs.declared.elements.Elem.{Elem}
use Rattle.floor_laws.specs.declared.rule.view.HeldTurn.{HeldTurn}
use Rattle.floor_laws.specs.declared.rule.view.TaskSlot.{TaskSlot}
use Rattle.floor_laws.specs.table.Layout.{free_word}
use Rattle.task_floor.specs.steps.Stands.{HasTaken, MayGiveBack, holder_in}
use Rattle.floor_laws.specs.admission.admission_core.States.{IsAmong, Record}
use Rattle.floor_laws.specs.rule.nodes.Taking.{clear_after_taking}
use Rattle.floor_laws.specs.rule.nodes.TurnSteps.{HasPlacedChildren}
use Rattle.floor_laws.specs.declared.table.nodes.slot.TreeSlot.{TreeSlot}
use Rattle.floor_laws.specs.declared.table.nodes.slot.TreeSlot.TheVariants as kinds
use Rattle.floor_laws.specs.table.nodes.FloorSeats.{floor_seat, tasks_out}
use Rattle.floor_laws.specs.declared.table.nodes.view.Look.TheVariants.{AtTurn}
use Rattle.floor_laws.specs.table.nodes.Looks.{looked_seat}
use Rattle.floor_laws.specs.table.nodes.Seats.{TreeSeat, turns_seen}
use Rattle.floor_laws.specs.table.nodes.TurnSeats.{MayLeaveTask}

-- The seat has taken the turn of task t as a seat of the floor does, and was handed what lay in the task's slot. It has placed no
-- record of the task since it last got a turn of it, and has no first turn of a child of the task. Unless the task is enabled, it
-- knows that no record of it stands. All else that it knows of nodes, and its other slots, are as before.
pub record HasTakenTask (nodes : List (List Elem)) (before after : TreeSeat) (t : ℕ) (slot : TaskSlot) : Type 0 where
  pub floor : HasTaken (floor_seat before) (floor_seat after) t slot
  pub fresh : (r : Record) → IsAmong r before.0.fresh → r.task ≢ t
  pub children : HasPlacedChildren (turns_seen before.0) 0 t
  pub view : after.0 ≡ record before.0 {
    floor = after.0.floor;
    clear = clear_after_taking nodes t floor.turn.row.status floor.turn.row.effects.effects before.0.clear;
  }
  pub out : after.1 ≡ (t, kinds.Task None) ∷ before.1

-- The turn word of task t was not free, and named this worker, or none. The seat knows that it looked and what it found, and is
-- as it was otherwise.
pub record FoundBusy (before after : TreeSeat) (t : ℕ) (holder : Option ℕ) : Type 0 where
  pub found : ℕ
  pub busy : found ≢ free_word
  pub named : holder ≡ holder_in found
  pub seat : after ≡ looked_seat before (AtTurn t found)

-- The seat may give the turn of task t with this in its slot, as a seat of the floor may. The slot is empty and the latest that
-- the seat has out. Of the nodes the seat knows enough.
pub record MayGiveTask (nodes : List (List Elem)) (me : TreeSeat) (t : ℕ) (slot : TaskSlot) (turn : HeldTurn)
    (rest : List (ℕ × TreeSlot)) : Type 0 where
  pub floor : MayGiveBack (floor_seat me) t slot turn (tasks_out rest)
  pub out : me.1 ≡ (t, kinds.Task None) ∷ rest
  pub leaves : MayLeaveTask nodes me.0 t turn
