-- How a stand leaves a task: it stores the task's phase and gives its turn.
use Rattle.std.specs.Prelude.{◌≡◌, ◌≢◌, ℕ, List, ◌∷◌, Option, None, Some}
use Rattle.floor_laws.specs.declared.rule.view.HeldTurn.{HeldTurn}
use Rattle.floor_laws.specs.declared.rule.view.OpenSegment.{OpenSegment}
use Rattle.floor_laws.specs.declared.rule.view.TaskSlot.{TaskSlot}
use Rattle.floor_laws.specs.rule.Rows.{slot_of}
use Rattle.floor_laws.specs.table.FloorOf.{turn_in}
use Rattle.floor_laws.specs.table.Tells.{Seat}

-- The seat may leave task t with this in its slot, which is empty and the latest that the seat has out: what the last entry
-- left. No segment of the task is open. What the phase word says does not count.
pub record MayLeave (me : Seat) (t : ℕ) (slot : TaskSlot) (turn : HeldTurn) (rest : List (ℕ × Option TaskSlot)) : Type 0 where
  pub has : turn_in me.0.turns t ≡ Some turn
  pub closed : (s : OpenSegment) → me.0.segment ≡ Some s → s.task ≢ t
  pub is : slot ≡ slot_of turn.row
  pub out : me.1 ≡ (t, None) ∷ rest
