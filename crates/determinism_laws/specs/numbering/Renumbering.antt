-- Frames, stops and segments with other numbers for their tasks.
use Rattle.std.specs.Prelude.{◌≡◌, ℕ, List, map, Contains, Option, option_map, Some}
use Rattle.seg_meaning.specs.declared.frame.Frame.{Frame}
use Rattle.seg_meaning.specs.declared.frame.Next.{Next}
use Rattle.seg_meaning.specs.declared.frame.Next.TheVariants.{Go, Get, Join, Closing, Ended}
use Rattle.seg_meaning.specs.declared.stop.Stop.{Stop}
use Rattle.seg_meaning.specs.declared.stop.Stop.TheVariants as stops
use Rattle.seg_meaning.specs.Children.{Children}
use Rattle.seg_meaning.specs.Segment.{Stopped}
use Rattle.machine_state.specs.Rows.{row_awaited}

-- the new number of each task
abbrev pub Numbering : Type 0
Numbering = ℕ → ℕ

-- what a task does next, with another number for the task that it waits for
abbrev pub next_renumbered : Numbering → Next → Next
next_renumbered to Go = Go
next_renumbered to (Get on into) = Get (to on) into
next_renumbered to (Join on into) = Join (to on) into
next_renumbered to (Closing on) = Closing (to on)
next_renumbered to Ended = Ended

-- the unjoined children with other numbers
abbrev pub children_renumbered : Numbering → Children → Children
children_renumbered to out = record out { items = map to out.items }

-- the futures with other numbers for the tasks that they stand for
abbrev pub futures_renumbered : Numbering → List (Option ℕ) → List (Option ℕ)
futures_renumbered to futures = map (option_map to) futures

-- The frame with other numbers: of its own task, of the tasks that its futures stand for, of its unjoined children, and of
-- the task that it waits for. All else is the same: its declaration, what remains of its body, its fuel and its prints.
abbrev pub frame_renumbered : Numbering → Frame → Frame
frame_renumbered to frame = record frame {
  task = to frame.task;
  futures = futures_renumbered to frame.futures;
  out = children_renumbered to frame.out;
  next = next_renumbered to frame.next;
}

-- the two frames are the same but for the numbers of the tasks
abbrev pub SameButNumbers : Numbering → Frame → Frame → Type 0
SameButNumbers to frame other = other ≡ frame_renumbered to frame

-- the stop with other numbers; a task that is made has no number yet
abbrev pub stop_renumbered : Numbering → Stop → Stop
stop_renumbered to (stops.Make child args effects spawned future place) = stops.Make child args effects spawned future place
stop_renumbered to (stops.Waits on) = stops.Waits (to on)
stop_renumbered to (stops.Joins on) = stops.Joins (to on)
stop_renumbered to (stops.Done value) = stops.Done value
stop_renumbered to (stops.Fault kind place) = stops.Fault kind place

-- what a segment leaves, with other numbers: the cells and the accesses are the same
abbrev pub stopped_renumbered : Numbering → Stopped → Stopped
stopped_renumbered to after = record {
  frame = frame_renumbered to after.frame;
  cells = after.cells;
  accesses = after.accesses;
  stop = stop_renumbered to after.stop;
}

-- the new numbers tell the task that the frame waits for apart from its other unjoined children
abbrev pub TellsApart : Numbering → Frame → Type 0
TellsApart to frame =
    (on child : ℕ) → row_awaited frame.next ≡ Some on → Contains frame.out.items child → to child ≡ to on
    → child ≡ on

-- the two numberings agree on the tasks of the frame
pub record SameNumbersIn (to other : Numbering) (frame : Frame) : Type 0 where
  pub task : other frame.task ≡ to frame.task
  pub futures : (child : ℕ) → Contains frame.futures (Some child) → other child ≡ to child
  pub out : (child : ℕ) → Contains frame.out.items child → other child ≡ to child
  pub next : (on : ℕ) → row_awaited frame.next ≡ Some on → other on ≡ to on
