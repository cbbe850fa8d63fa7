-- How a task that a stand has in hand goes on.
use Rattle.std.specs.Prelude.{◌≡◌, ◌≢◌, ◌⊎◌, ℕ, ℤ, false, None, Some}
use Rattle.seg_meaning.specs.declared.frame.Frame.{Frame}
use Rattle.floor_laws.specs.declared.rule.view.DoneFact.{DoneFact}
use Rattle.floor_laws.specs.declared.rule.view.HeldTurn.{HeldTurn}
use Rattle.floor_laws.specs.declared.rule.view.Phase.TheVariants as phases
use Rattle.floor_laws.specs.rule.Rows.{phase_of}
use Rattle.floor_laws.specs.admission.admission_core.States.{IsAmong}
use Rattle.floor_laws.specs.table.Added.{HasGrown}
use Rattle.floor_laws.specs.table.FloorOf.{turn_in}
use Rattle.floor_laws.specs.table.Tells.{IsLatest, Seat}
use Rattle.task_floor.specs.declared.steps.readiness.Readiness.{Readiness}
use Rattle.task_floor.specs.declared.steps.readiness.Readiness.TheVariants.{Runs, Waits, Made, Ended}
use Rattle.task_floor.specs.steps.Segments.{MayRunSegment}

-- The seat has task t in hand, between two entries, with this frame. It took the turn of t, whose slot is the latest that it has
-- out. The phase word and the frame are those of the task's row. No segment is open.
pub record HasInHand (me : Seat) (t : ℕ) (turn : HeldTurn) (frame : Frame) : Type 0 where
  pub has : turn_in me.0.turns t ≡ Some turn
  pub taken : turn.first ≡ false
  pub phase : turn.phase ≡ phase_of turn.row
  pub frame_is : frame ≡ turn.row.frame
  pub latest : IsLatest me t
  pub closed : me.0.segment ≡ None

-- The seat may know more tasks to be done, and may have another turn of task t. All else is as before.
pub record MovesOn (before after : Seat) (t : ℕ) : Type 0 where
  pub others : (u : ℕ) → u ≢ t → turn_in after.0.turns u ≡ turn_in before.0.turns u
  pub grown : HasGrown before.0.turns after.0.turns
  pub done : (fact : DoneFact) → IsAmong fact before.0.done → IsAmong fact after.0.done
  pub rest : after ≡ (record before.0 { turns = after.0.turns; done = after.0.done }, before.1)

-- The seat may know more tasks to be done. All else is as before.
pub record KnowsMore (before after : Seat) : Type 0 where
  pub turns : (t : ℕ) → turn_in after.0.turns t ≡ turn_in before.0.turns t
  pub grown : HasGrown before.0.turns after.0.turns
  pub done : (fact : DoneFact) → IsAmong fact before.0.done → IsAmong fact after.0.done
  pub rest : after ≡ (record before.0 { turns = after.0.turns; done = after.0.done }, before.1)

-- the seat knows that task t is done with this value
abbrev pub KnowsValue : Seat → ℕ → ℤ → Type 0
KnowsValue me t value = IsAmong (record { task = t; value = value }) me.0.done

-- What was found of task t, which was in hand with this turn. If its segment may run, the phase word says `Running`, and a frame
-- that waited has taken the awaited value. Otherwise it is in hand as before, and the row says why it can't go on.
abbrev pub IsReadiness : HeldTurn → Seat → ℕ → Frame → Readiness → Type 0
IsReadiness turn after t frame Runs = MayRunSegment after t (record turn { phase = phases.Running }) frame
IsReadiness turn after t frame (Waits on) = (phase_of turn.row ≡ phases.Waits on) × HasInHand after t turn frame
IsReadiness turn after t frame Made = (phase_of turn.row ≡ phases.Made) × HasInHand after t turn frame
IsReadiness turn after t frame Ended =
    ((phase_of turn.row ≡ phases.Done) ⊎ (phase_of turn.row ≡ phases.Faulted)) × HasInHand after t turn frame
