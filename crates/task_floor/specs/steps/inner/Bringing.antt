-- Between an entry that makes a task and the turn of that task.
use Rattle.std.specs.Prelude.{◌≡◌, ◌+◌, ◌<◌, ℕ, Option, None, Some, if◌then◌else◌, nat_lt, option_map}
use Rattle.std.specs.Option.{ForSome}
use Rattle.twe_base.specs.Limits.{Bounds}
use Rattle.seg_meaning.specs.declared.frame.Frame.{Frame}
use Rattle.seg_meaning.specs.declared.stop.Stop.{Stop}
use Rattle.seg_meaning.specs.declared.stop.Stop.TheVariants as stops
use Rattle.machine_state.specs.declared.state.TaskRow.{TaskRow}
use Rattle.machine_state.specs.Moves.{making_frame, status_at_start, stopped_frame}
use Rattle.floor_laws.specs.declared.rule.view.TaskSlot.{TaskSlot}
use Rattle.floor_laws.specs.rule.Rows.{slot_of}
use Rattle.floor_laws.specs.table.Tells.{Seat, drawn_with}

-- the frame of a task after its entry, if it had no printed numbers before
abbrev pub frame_after : Bounds → ℕ → Frame → Stop → Frame
frame_after lim asked frame (stops.Make child args effects spawned future place) =
    if nat_lt (asked + 1) lim.tasks then making_frame future spawned (asked + 1) frame else stopped_frame frame
frame_after lim asked frame (stops.Waits on) = frame
frame_after lim asked frame (stops.Joins on) = frame
frame_after lim asked frame (stops.Done value) = frame
frame_after lim asked frame (stops.Fault kind place) = frame

-- the seat after an entry, with the first turn of the task that it made, if it made one
abbrev pub seat_with : Seat → ℕ → Option TaskRow → Seat
seat_with drawn child None = drawn
seat_with drawn child (Some row) = drawn_with drawn child row

-- the status of a new task is told by whether it has a parent
abbrev pub IsNew : TaskRow → Type 0
IsNew row = row.status ≡ status_at_start row.parent

-- The seat may give the first turn of the task that an entry made, if it made one: this is what its slot will hold.
pub record MayBring (lim : Bounds) (me : Seat) (child : ℕ) (slot : Option TaskSlot) (drawn : Seat)
    (row : Option TaskRow) : Type 0 where
  pub is : me ≡ seat_with drawn child row
  pub closed : drawn.0.segment ≡ None
  pub slot_is : slot ≡ option_map slot_of row
  pub below : ForSome row (λ _. child < lim.tasks)
  pub new : ForSome row IsNew
