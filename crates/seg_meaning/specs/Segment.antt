-- The meaning of a segment: what a task executes from where it stands up to its next task operation or its end.
use Rattle.std.specs.Prelude.{◌≡◌, ◌<◌, ℕ, ◌+◌, ℤ, pos, Bool, true, false, List, [], ◌∷◌, ◌++◌, Option, None, Some, slice_get}
use Rattle.twe_program.specs.Program.{Program}
use Rattle.seg_meaning.specs.declared.frame.OpenBody.{OpenBody}
use Rattle.seg_meaning.specs.declared.frame.Frame.{Frame}
use Rattle.seg_meaning.specs.declared.frame.Position.{Position}
use Rattle.seg_meaning.specs.declared.frame.Next.{Next}
use Rattle.seg_meaning.specs.declared.frame.Next.TheVariants.{Go, Get, Join, Closing, Ended}
use Rattle.seg_meaning.specs.declared.operation.Operation.{Operation}
use Rattle.seg_meaning.specs.declared.operation.Operation.TheVariants as operations
use Rattle.seg_meaning.specs.declared.stop.Stop.{Stop}
use Rattle.seg_meaning.specs.declared.stop.Stop.TheVariants as ends
use Rattle.seg_meaning.specs.Causes.{fault_kind}
use Rattle.seg_meaning.specs.Children.{Children}
use Rattle.seg_meaning.specs.Access.{Access, Agrees, Follows, MayAll, Ways, after, printed}
use Rattle.seg_meaning.specs.Entry.{effects_at, entry_frame}
use Rattle.seg_meaning.specs.Meaning.{body_of, done_within}
use Rattle.seg_meaning.specs.Remaining.{resumed}
use Rattle.seg_meaning.specs.Store.{Store, Flow, goes, returns, fails, stops}

-- what a segment leaves: the frame, the cells, its accesses, the latest first, and how it stopped
pub record Stopped : Type 0 where
  pub frame : Frame
  pub cells : List ℤ
  pub accesses : List Access
  pub stop : Stop

-- the frame with the fuel that the store has left and the numbers that the segment printed
abbrev pub with_store : Frame → Option OpenBody → Store → Frame
with_store frame body s = record frame { body = body; fuel = s.fuel; prints = frame.prints ++ printed s.accesses }

-- the task's body with these open blocks
abbrev pub open_body : List Position → Store → OpenBody
open_body open_blocks s = record { vars = s.vars; open_blocks = open_blocks }

-- what a task does next at the end of its body: it joins its first unjoined child, or, if it has none, it is done
abbrev pub closing : List ℕ → Next
closing [] = Ended
closing (child ∷ others) = Closing child

-- the stop at the end of the body: the join of the first unjoined child, or, if there is none, the end with this value
abbrev pub closing_stop : List ℕ → ℤ → Stop
closing_stop [] value = ends.Done value
closing_stop (child ∷ others) value = ends.Joins child

-- what a segment leaves that comes to the end of the body with this value
abbrev pub at_end : Frame → ℤ → Store → Stopped
at_end frame value s = record {
  frame = record (with_store frame None s) { next = closing frame.out.items; value = value };
  cells = s.cells;
  accesses = s.accesses;
  stop = closing_stop frame.out.items value;
}

-- the task that a future stands for; each future that a task waits for stands for one
abbrev pub task_of : Option (Option ℕ) → ℕ
task_of (Some (Some task)) = task
task_of (Some None) = 0
task_of None = 0

-- what a task does next that stops to join the task `on` or to wait for it; `into` is the variable that takes the value
abbrev pub waiting : Bool → ℕ → Option ℕ → Next
waiting true on into = Join on into
waiting false on into = Get on into

-- the stop at a join of the task `on`, or at a wait for it
abbrev pub waiting_stop : Bool → ℕ → Stop
waiting_stop true on = ends.Joins on
waiting_stop false on = ends.Waits on

-- the stop at a task operation
abbrev pub operation_stop : Program → Frame → Operation → Stop
operation_stop p frame (operations.Make future task args spawned place) =
    ends.Make (entry_frame p task args) args (effects_at p task args) spawned future place
operation_stop p frame (operations.Wait future join into) = waiting_stop join (task_of (slice_get frame.futures future))

-- what the task does next after a task operation
abbrev pub operation_next : Frame → Operation → Next
operation_next frame (operations.Make future task args spawned place) = Go
operation_next frame (operations.Wait future join into) = waiting join (task_of (slice_get frame.futures future)) into

-- a make that spawns has room reserved for one more child, so that the child's number can be added without taking memory
abbrev pub room_to_spawn : Bool → ℕ → ℕ
room_to_spawn true room = 1
room_to_spawn false room = room

-- the room for further children at a stop at a task operation: a make that spawns has one reserved
abbrev pub operation_room : Operation → ℕ → ℕ
operation_room (operations.Make future task args spawned place) room = room_to_spawn spawned room
operation_room (operations.Wait future join into) room = room

-- the unjoined children with this room
abbrev pub operation_out : Operation → Children → Children
operation_out operation out = record out { room = operation_room operation out.room }

-- after a stop at a make that spawns, the frame has room for one more child
abbrev pub HasRoomToSpawn : Stop → Frame → Type 0
HasRoomToSpawn (ends.Make child args effects spawned future place) frame = spawned ≡ true → 0 < frame.out.room
HasRoomToSpawn _ frame = Unit {0}

-- what a segment leaves, by how the rest of the body ends
abbrev pub stopped_by : Program → Frame → Flow → Stopped
stopped_by p frame (goes s) = at_end frame (pos 0) s
stopped_by p frame (returns value s) = at_end frame value s
stopped_by p frame (fails cause place s) = record {
  frame = record (with_store frame None s) { next = Ended };
  cells = s.cells;
  accesses = s.accesses;
  stop = ends.Fault (fault_kind cause) place;
}
stopped_by p frame (stops operation positions s) = record {
  frame = record (with_store frame (Some (open_body positions s)) s)
      { next = operation_next frame operation; out = operation_out operation frame.out };
  cells = s.cells;
  accesses = s.accesses;
  stop = operation_stop p frame operation;
}

-- the store at the start of a segment
abbrev pub store_at : Frame → List ℤ → List ℤ → Store
store_at frame vars cells = record { cells = cells; vars = vars; fuel = frame.fuel; calls = []; accesses = [] }

-- how the rest of a frame ends: the rest of the body, or, if the body has ended, at once with its value
abbrev pub flow_of : Program → Frame → Option OpenBody → List ℤ → Flow
flow_of p frame None cells = returns frame.value (store_at frame [] cells)
flow_of p frame (Some body) cells =
    resumed (done_within p (frame.fuel + 1)) p (body_of (slice_get p.tasks frame.decl)) body.open_blocks
    (store_at frame body.vars cells)

-- the segment of a frame over a list of cells
abbrev pub segment : Program → Frame → List ℤ → Stopped
segment p frame cells = stopped_by p frame (flow_of p frame frame.body cells)

-- the accesses of a segment agree with the list of cells that it began with, and make the list that it leaves
pub record AgreesWithItself (cells : List ℤ) (stopped : Stopped) : Type 0 where
  pub agrees : Agrees cells stopped.accesses
  pub cells_after : stopped.cells ≡ after cells stopped.accesses

-- the segment over this list of cells leaves this stop, this frame and these cells
abbrev pub IsSegment : Program → Frame → List ℤ → Stop → Frame → List ℤ → Type 0
IsSegment p old_frame old_cells stop new_frame new_cells =
    let after = segment p old_frame old_cells in
    (after.frame ≡ new_frame) × (after.cells ≡ new_cells) × (after.stop ≡ stop)

-- the implementation allows each access that the segment makes over any list of cells
abbrev pub MayCarryOut : {C : Type 0} → Program → Ways C → Frame → C → Type 0
MayCarryOut p ways frame holder = (cells : List ℤ) → MayAll ways holder (segment p frame cells).accesses

-- An execution of a segment over any implementation of cells. It makes some accesses, each by the rule of the
-- implementation. Over each list of cells that agrees with them, the segment makes exactly these accesses and has this
-- frame and this stop.
pub record CarriesOut {C : Type 0} (p : Program) (rule : C → Access → C → Type 0)
    (old_frame : Frame) (old_cells : C) (stop : Stop) (new_frame : Frame) (new_cells : C) : Type 0 where
  pub accesses : List Access
  pub follows : Follows rule old_cells accesses new_cells
  pub means : (cells : List ℤ) → Agrees cells accesses
      → segment p old_frame cells ≡ record { frame = new_frame; cells = after cells accesses; accesses = accesses; stop = stop }
