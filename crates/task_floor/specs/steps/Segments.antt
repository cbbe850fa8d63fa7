-- Segments over the floor. A stand carries out the segment of the task whose slot is the latest that it has out.
use Rattle.std.specs.Prelude.{◌≡◌, ◌<◌, ℕ, zero, ℤ, List, [], ◌∷◌, Option, None, Some}
use Rattle.atomic_table.specs.declared.shared.Seat.{Seat as TableSeat}
use Rattle.twe_program.specs.Program.{Program, cell_count}
use Rattle.seg_meaning.specs.declared.frame.Frame.{Frame}
use Rattle.seg_meaning.specs.declared.stop.Stop.{Stop}
use Rattle.seg_meaning.specs.Access.{Reads, Writes}
use Rattle.floor_laws.specs.declared.rule.view.HeldTurn.{HeldTurn}
use Rattle.floor_laws.specs.declared.rule.view.Phase.TheVariants.{Running}
use Rattle.floor_laws.specs.declared.rule.view.TaskSlot.{TaskSlot}
use Rattle.floor_laws.specs.declared.rule.view.Touch.{Touch}
use Rattle.floor_laws.specs.rule.Fitting.{MayRunFrom}
use Rattle.floor_laws.specs.rule.LastTouches.{last_touched}
use Rattle.floor_laws.specs.rule.Touches.{touches_of}
use Rattle.floor_laws.specs.declared.table.view.View.{View}
use Rattle.floor_laws.specs.table.FloorOf.{turn_in}
use Rattle.floor_laws.specs.table.Tells.{IsLatest, MayDraw, Seat, with_touch}
use Rattle.task_floor.specs.steps.Stands.{MayAccess}

-- a stand, as clauses see it
abbrev pub StandValue : Type 0
StandValue = TableSeat (Option TaskSlot) View

-- the task whose slot is the latest that the seat has out; 0 if it has none out
abbrev pub latest_task : List (ℕ × Option TaskSlot) → ℕ
latest_task [] = zero
latest_task (slot ∷ slots) = slot.0

-- What a stand states as an implementation of cells.

-- it knows the cells that the open segment has touched: each has the value of its last touch
abbrev pub stand_knows : StandValue → ℕ → Option ℤ
stand_knows stand cell = last_touched (touches_of stand.me.0.segment) cell

-- there is such a cell, and the segment of that task may read it; the value does not count
pub record MayReadCell (p : Program) (stand : StandValue) (cell : ℕ) : Type 0 where
  pub below : cell < cell_count p
  pub value : ℤ
  pub may : MayAccess p stand.me (Reads cell value)

-- there is such a cell, and that segment may write it; the value does not count
pub record MayWriteCell (p : Program) (stand : StandValue) (cell : ℕ) : Type 0 where
  pub below : cell < cell_count p
  pub value : ℤ
  pub may : MayAccess p stand.me (Writes cell value)

-- the open segment has one touch more; nothing else changes
pub record HasTouched (old new : StandValue) (touch : Touch) : Type 0 where
  pub seat : new.me ≡ (with_touch old.me.0 (latest_task old.me.1) touch, old.me.1)
  pub same : (new.table_id ≡ old.table_id) × (new.id ≡ old.id)

-- Running a segment.

-- The seat may run the next segment of task t, which starts from this frame. It took the turn of t, whose slot is the latest
-- that it has out. The task is enabled, and if it waited, its frame has taken the awaited value. The phase word says
-- `Running`. No segment is open.
pub record MayRunSegment (me : Seat) (t : ℕ) (turn : HeldTurn) (ready : Frame) : Type 0 where
  pub has : turn_in me.0.turns t ≡ Some turn
  pub may : MayRunFrom turn me.0.done ready
  pub running : turn.phase ≡ Running
  pub latest : IsLatest me t
  pub closed : me.0.segment ≡ None

-- The segment has run, and left this frame and this stop: its entry may be drawn. The seat is as before but for the segment,
-- which is open.
pub record HasRunSegment (p : Program) (before after : Seat) (t : ℕ) (turn : HeldTurn) (frame : Frame)
    (stop : Stop) : Type 0 where
  pub draw : MayDraw p after t turn frame stop
  pub kept : after ≡ (record before.0 { segment = after.0.segment }, before.1)
