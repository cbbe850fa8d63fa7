-- What a stand may do on the floor, and what a call on it leaves. The slot of a task is empty while a worker has its turn, since
-- what lay in it was handed out.
use Rattle.std.specs.Prelude.{◌≡◌, ◌≢◌, ℕ, zero, suc, ℤ, false, List, ◌∷◌, Option, None, Some}
use Rattle.twe_program.specs.Program.{Program}
use Rattle.machine_state.specs.declared.state.TaskStatus.TheVariants as status
use Rattle.seg_meaning.specs.Access.{Access}
use Rattle.floor_laws.specs.declared.rule.view.HeldTurn.{HeldTurn}
use Rattle.floor_laws.specs.declared.rule.view.OpenSegment.{OpenSegment}
use Rattle.floor_laws.specs.declared.rule.view.TaskSlot.{TaskSlot}
use Rattle.floor_laws.specs.declared.rule.view.Touch.TheVariants.{Read}
use Rattle.floor_laws.specs.rule.Rows.{phase_of, slot_of}
use Rattle.floor_laws.specs.table.FloorOf.{turn_in}
use Rattle.floor_laws.specs.table.Tells.{IsLatest, MayTouchCell, Seat, with_touch, with_turn}

-- the number of the worker that a turn word names, if it names one
abbrev pub holder_in : ℕ → Option ℕ
holder_in zero = None
holder_in (suc zero) = None
holder_in (suc (suc worker)) = Some worker

-- The seat has taken the turn of task t, which it did not have, and was handed what lay in the task's slot. It knows the task's
-- row: the phase word is the one of that row, and the frame of a done task has its value.
pub record HasTaken (before after : Seat) (t : ℕ) (slot : TaskSlot) : Type 0 where
  pub had_none : turn_in before.0.turns t ≡ None
  pub turn : HeldTurn
  pub taken : turn.first ≡ false
  pub phase : turn.phase ≡ phase_of turn.row
  pub value : turn.row.status ≡ status.Done → turn.row.frame.value ≡ turn.row.value
  pub is : slot ≡ slot_of turn.row
  pub seat : after ≡ (with_turn before.0 t (Some turn), (t, None) ∷ before.1)

-- The seat may give the turn of task t with this in its slot, which is empty and the latest that the seat has out: what the last
-- entry left. The phase word is the one of the task's row, and no segment of the task is open.
pub record MayGiveBack (me : Seat) (t : ℕ) (slot : TaskSlot) (turn : HeldTurn) (rest : List (ℕ × Option TaskSlot)) : Type 0 where
  pub has : turn_in me.0.turns t ≡ Some turn
  pub phase : turn.phase ≡ phase_of turn.row
  pub closed : (s : OpenSegment) → me.0.segment ≡ Some s → s.task ≢ t
  pub is : slot ≡ slot_of turn.row
  pub out : me.1 ≡ (t, None) ∷ rest

-- the seat may make this access for the task whose slot is the latest that it has out
pub record MayAccess (p : Program) (me : Seat) (access : Access) : Type 0 where
  pub task : ℕ
  pub latest : IsLatest me task
  pub may : MayTouchCell p me task access

-- the seat has read this value of a cell, for that task
abbrev pub HasLoaded : Seat → ℕ → ℕ → ℤ → Seat → Type 0
HasLoaded before t c value after = after ≡ (with_touch before.0 t (Read c value), before.1)
