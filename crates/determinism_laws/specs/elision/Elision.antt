-- The sequential execution of one declaration: each spawn runs the child in full where it stands, and the join of the child
-- takes the value that was kept.
use Rattle.std.specs.Prelude.{ℕ, zero, suc, ◌+◌, ◌*◌, ◌==◌, ℤ, pos, Bool, true, false, List, [], ◌∷◌, ◌++◌, length, nat_lt, if◌then◌else◌, slice_get, slice_set}
use Rattle.std.specs.List.{list_any}
use Rattle.twe_base.specs.declared.place.Place.{Place}
use Rattle.twe_base.specs.Limits.{Bounds}
use Rattle.twe_base.specs.declared.fault.FaultKind.{FaultKind}
use Rattle.twe_base.specs.declared.fault.FaultKind.TheVariants.{TaskLimit}
use Rattle.twe_program.specs.Program.{Program}
use Rattle.seg_meaning.specs.declared.frame.Frame.{Frame}
use Rattle.seg_meaning.specs.declared.stop.Stop.{Stop}
use Rattle.seg_meaning.specs.declared.stop.Stop.TheVariants.{Make, Waits, Joins, Done, Fault}
use Rattle.seg_meaning.specs.Access.{value_in}
use Rattle.seg_meaning.specs.Entry.{entry_frame}
use Rattle.seg_meaning.specs.Giving.{given}
use Rattle.seg_meaning.specs.Segment.{Stopped, segment}
use Rattle.machine_state.specs.Moves.{frame_without_prints, making_frame}
use Rattle.determinism_laws.specs.declared.elision.progress.Progress.{Progress}

-- How an execution ends. A fault ends all of it.
pub data Ending : Type 0 where
  -- with the value of its task, and what it has done up to there
  ends : (value : ℤ) (progress : Progress) → Ending
  -- with a fault at a place of the text
  fails : (kind : FaultKind) (place : Place) → Ending
  -- at an `executeLater`, a `getValue`, or a join of a task that is no unjoined child of its own: it is not fork and join
  strays : Ending
  -- it has not ended when the bound on its segments is reached
  goes_on : Ending

-- continues after a child that has ended with a value
abbrev pub then_go_on : Ending → (Progress → Ending) → Ending
then_go_on (ends value s) next = next s
then_go_on (fails kind place) next = fails kind place
then_go_on strays next = strays
then_go_on goes_on next = goes_on

-- The definitions below take the meaning of the segments that follow as a parameter. `run_within` supplies it.
abbrev pub Running : Type 0
Running = Frame → Progress → Ending

-- the frame of a new task, which has all of the fuel
abbrev pub first_frame : Bounds → ℕ → Frame → Frame
first_frame lim number child = record child { task = number; fuel = lim.fuel }

-- one more task, whose value is 0 until it has ended
abbrev pub with_task : Progress → Progress
with_task s = record s { values = s.values ++ pos 0 ∷ [] }

-- The task with this frame spawns a child. The tasks are numbered in the order of their making, the first one being 0, so
-- the child's number is how many there are. It runs in full, with fuel of its own, and then its parent goes on. A child
-- whose number is not below the limit on tasks is a fault.
abbrev pub spawned : Running → Bounds → Frame → Frame → ℕ → Place → Progress → Ending
spawned rest lim frame child future place s =
    let number = length s.values in
    if nat_lt number lim.tasks
    then then_go_on (rest (first_frame lim number child) (with_task s))
    (λ after. rest (making_frame future true number frame) after)
    else fails TaskLimit place

-- the task with this frame makes a task: a spawn runs it, and an `executeLater` is not fork and join
abbrev pub made : Running → Bounds → Bool → Frame → Frame → ℕ → Place → Progress → Ending
made rest lim true frame child future place s = spawned rest lim frame child future place s
made rest lim false frame child future place s = strays

-- the value that was kept for a task
abbrev pub kept_value : Progress → ℕ → ℤ
kept_value s task = value_in (slice_get s.values task)

-- the task is an unjoined child of this frame
abbrev pub is_child : ℕ → Frame → Bool
is_child task frame = list_any (λ child. child == task) frame.out.items

-- the task with this frame joins a child, and takes the value that was kept
abbrev pub with_joined_child : Running → Frame → ℕ → Progress → Ending
with_joined_child rest frame on s = if is_child on frame then rest (given frame (kept_value s on)) s else strays

-- the value of the task with this frame is kept
abbrev pub with_value : Frame → ℤ → Progress → Progress
with_value frame value s = record s { values = slice_set s.values frame.task value }

-- what follows a segment that left this frame and stopped in this way
abbrev pub after_stop : Running → Bounds → Frame → Stop → Progress → Ending
after_stop rest lim frame (Make child args effects spawned future place) s = made rest lim spawned frame child future place s
after_stop rest lim frame (Waits on) s = strays
after_stop rest lim frame (Joins on) s = with_joined_child rest frame on s
after_stop rest lim frame (Done value) s = ends value (with_value frame value s)
after_stop rest lim frame (Fault kind place) s = fails kind place

-- what was done up to the end of a segment: the cells are as it left them, and its prints follow those before it
abbrev pub with_segment : Progress → Stopped → Progress
with_segment s after = record s { cells = after.cells; prints = s.prints ++ after.frame.prints }

-- what follows a segment: its frame goes on without the numbers that it printed, which are among what was done
abbrev pub after_segment : Running → Bounds → Progress → Stopped → Ending
after_segment rest lim s after = after_stop rest lim (frame_without_prints after.frame) after.stop (with_segment s after)

-- the execution of the task with this frame up to its end, with at most n segments in a row, its children's among them
unfoldable pub run_within : Program → Bounds → ℕ → Running
run_within p lim zero frame s = goes_on
run_within p lim (suc n) frame s = after_segment (run_within p lim n) lim s (segment p frame s.cells)

-- the first frame of the declaration `task`
abbrev pub frame_at_start : Program → Bounds → ℕ → List ℤ → Frame
frame_at_start p lim task args = first_frame lim 0 (entry_frame p task args)

-- what was done before the first segment on these cells: nothing. The first task is there, and its value is 0 so far.
abbrev pub progress_at_start : List ℤ → Progress
progress_at_start cells = record { cells = cells; prints = []; values = pos 0 ∷ [] }

-- no execution has more segments
abbrev pub most_segments : Bounds → ℕ
most_segments lim = lim.tasks * (2 * lim.fuel + 2)

-- the sequential execution of the declaration `task` with these arguments on these cells
abbrev pub elided : Program → Bounds → ℕ → List ℤ → List ℤ → Ending
elided p lim task args cells = run_within p lim (most_segments lim) (frame_at_start p lim task args) (progress_at_start cells)
