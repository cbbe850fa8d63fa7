-- A worker between two tasks, and one that has a task in hand, beside the nodes.
use Rattle.std.specs.Prelude.{◌≡◌, ◌≢◌, ◌⊎◌, ◌<◌, ℕ, true, false, List, [], ◌∷◌, None, Some}
use Rattle.region_paths.specs.declared.elements.Elem.{Elem}
use Rattle.twe_base.specs.Limits.{Bounds}
use Rattle.machine_state.specs.Moves.{status_at_start}
use Rattle.floor_laws.specs.declared.rule.view.HeldTurn.{HeldTurn}
use Rattle.floor_laws.specs.declared.rule.view.TaskSlot.{TaskSlot}
use Rattle.floor_laws.specs.rule.Rows.{slot_of}
use Rattle.floor_laws.specs.declared.table.view.SeatKind.TheVariants.{Spent}
use Rattle.floor_laws.specs.table.FloorOf.{turn_in}
use Rattle.task_floor.specs.steps.Committing.{Log}
use Rattle.task_floor.specs.steps.Resuming.{HasInHand}
use Rattle.task_floor.specs.steps.Segments.{MayRunSegment}
use Rattle.task_floor.specs.steps.Working.{IsIdle}
use Rattle.floor_laws.specs.admission.admission_core.States.{IsAmong, Record}
use Rattle.floor_laws.specs.declared.table.nodes.slot.TreeSlot.TheVariants as kinds
use Rattle.floor_laws.specs.declared.table.nodes.view.TreeView.{TreeView}
use Rattle.floor_laws.specs.table.nodes.FloorSeats.{floor_seat}
use Rattle.floor_laws.specs.table.nodes.Holds.{HasLeftTree}
use Rattle.floor_laws.specs.table.nodes.Seats.{TreeSeat}
use Rattle.floor_laws.specs.table.nodes.TreeOf.{content_in}
use Rattle.task_floor.specs.Resuming.{KnowsEnough}

-- The worker has nothing in hand: no turn, no slot and no open segment, and nothing of the tree. The stand is its own, and its
-- log has the entries that the stand knows.
pub record IsIdleBeside (number : ℕ) (me : TreeSeat) (log : Log) : Type 0 where
  pub floor : IsIdle number (floor_seat me) log
  pub out : me.1 ≡ []
  pub left : HasLeftTree me.0

-- The seat does nothing in the tree and has the content of no node. What it knows of records is of these tasks alone.
pub record IsOutsideWith (of : ℕ → Type 0) (v : TreeView) : Type 0 where
  pub idle : v.activity ≡ None
  pub kept : (n : ℕ) → content_in v.kept n ≡ None
  pub fresh : (r : Record) → IsAmong r v.fresh → of r.task
  pub clear : (r : Record) → IsAmong r v.clear → of r.task

-- the worker has at most the turn of task t, and its slot alone is out
pub record HoldsOneBeside (number : ℕ) (me : TreeSeat) (log : Log) (t : ℕ) : Type 0 where
  pub live : me.0.floor.kind ≢ Spent
  pub number_is : number ≡ me.0.floor.worker
  pub others : (u : ℕ) → u ≢ t → turn_in me.0.floor.turns u ≡ None
  pub out : me.1 ≡ (t, kinds.Task None) ∷ []
  pub entries : log.entries ≡ me.0.floor.part
  pub outside : IsOutsideWith (λ u. u ≡ t) me.0

-- it has that turn, between two entries, with this in its hand, and knows enough of the nodes to give it
pub record HoldsTaskBeside (nodes : List (List Elem)) (number : ℕ) (me : TreeSeat) (log : Log) (t : ℕ) (slot : TaskSlot)
    (turn : HeldTurn) : Type 0 where
  pub one : HoldsOneBeside number me log t
  pub in_hand : HasInHand (floor_seat me) t turn slot.frame
  pub slot_is : slot ≡ slot_of turn.row
  pub enough : KnowsEnough nodes me.0 t turn.row

-- and it may run the next segment from the frame of this slot
pub record HoldsReadyBeside (number : ℕ) (me : TreeSeat) (log : Log) (t : ℕ) (slot : TaskSlot) (turn : HeldTurn) : Type 0 where
  pub one : HoldsOneBeside number me log t
  pub may : MayRunSegment (floor_seat me) t turn slot.frame
  pub slot_is : slot ≡ record (slot_of turn.row) { frame = slot.frame }

-- and it has drawn the entry of its segment, which has left this slot
pub record HoldsDrawnBeside (number : ℕ) (me : TreeSeat) (log : Log) (t : ℕ) (slot : TaskSlot) (turn : HeldTurn) : Type 0 where
  pub one : HoldsOneBeside number me log t
  pub has : turn_in me.0.floor.turns t ≡ Some turn
  pub taken : turn.first ≡ false
  pub slot_is : slot ≡ slot_of turn.row
  pub closed : me.0.floor.segment ≡ None

-- The same with a spawned child: the worker has the first turn of task c too, which the entry has made, and what c's slot will
-- hold.
pub record HoldsChildBeside (lim : Bounds) (number : ℕ) (me : TreeSeat) (log : Log) (t : ℕ) (slot : TaskSlot) (turn : HeldTurn)
    (c : ℕ) (child : TaskSlot) (new : HeldTurn) : Type 0 where
  pub live : me.0.floor.kind ≢ Spent
  pub number_is : number ≡ me.0.floor.worker
  pub others : (u : ℕ) → u ≢ t → u ≢ c → turn_in me.0.floor.turns u ≡ None
  pub out : me.1 ≡ (c, kinds.Task None) ∷ (t, kinds.Task None) ∷ []
  pub entries : log.entries ≡ me.0.floor.part
  pub outside : IsOutsideWith (λ u. (u ≡ t) ⊎ (u ≡ c)) me.0
  pub has : turn_in me.0.floor.turns t ≡ Some turn
  pub taken : turn.first ≡ false
  pub slot_is : slot ≡ slot_of turn.row
  pub closed : me.0.floor.segment ≡ None
  pub differ : c ≢ t
  pub below : c < lim.tasks
  pub has_new : turn_in me.0.floor.turns c ≡ Some new
  pub first : new.first ≡ true
  pub parent : ℕ
  pub spawned : new.row.parent ≡ Some parent
  pub new_is : child ≡ slot_of new.row
  pub new_status : new.row.status ≡ status_at_start new.row.parent
