-- The turns of an execution with a stack of its own: a turn carries out one segment.
use Rattle.std.specs.Prelude.{◌≡◌, ℕ, ℤ, Bool, true, false, List, [], ◌∷◌, length, nat_lt, if◌then◌else◌}
use Rattle.twe_base.specs.declared.place.Place.{Place}
use Rattle.twe_base.specs.Limits.{Bounds}
use Rattle.twe_base.specs.declared.fault.FaultKind.{FaultKind}
use Rattle.twe_base.specs.declared.fault.FaultKind.TheVariants.{TaskLimit}
use Rattle.seg_meaning.specs.declared.frame.Frame.{Frame}
use Rattle.seg_meaning.specs.declared.stop.Stop.{Stop}
use Rattle.seg_meaning.specs.declared.stop.Stop.TheVariants as stops
use Rattle.seg_meaning.specs.Giving.{given}
use Rattle.seg_meaning.specs.Segment.{Stopped}
use Rattle.machine_state.specs.Moves.{frame_without_prints, making_frame}
use Rattle.seq_elide.specs.declared.fail.ElideFail.{ElideFail}
use Rattle.seq_elide.specs.declared.fail.ElideFail.TheVariants as fail
use Rattle.determinism_laws.specs.declared.elision.progress.Progress.{Progress}
use Rattle.seq_elide.specs.declared.turn.Turn.{Turn}
use Rattle.seq_elide.specs.declared.turn.Turn.TheVariants as turn
use Rattle.determinism_laws.specs.elision.Elision.{first_frame, is_child, kept_value, with_segment, with_task, with_value}

-- how a turn ends
pub data Turned : Type 0 where
  -- the next segment is one of this frame, whose callers wait for its task to end, the innermost first
  goes_to : (callers : List Frame) (frame : Frame) (progress : Progress) → Turned
  -- the first task has ended
  ended : (value : ℤ) (progress : Progress) → Turned
  faulted : (kind : FaultKind) (place : Place) → Turned
  strayed : Turned

-- the turn at a spawn: the child comes next, and its parent waits on the stack; a fault if the child's number is not
-- below the limit
abbrev pub turn_at_spawn : Bounds → List Frame → Frame → Frame → ℕ → Place → Progress → Turned
turn_at_spawn lim callers frame child future place s =
    let number = length s.values in
    if nat_lt number lim.tasks
    then goes_to (making_frame future true number frame ∷ callers) (first_frame lim number child) (with_task s)
    else faulted TaskLimit place

-- the turn at a make: a spawn, or an `executeLater`, which is not fork and join
abbrev pub turn_at_make : Bounds → Bool → List Frame → Frame → Frame → ℕ → Place → Progress → Turned
turn_at_make lim true callers frame child future place s = turn_at_spawn lim callers frame child future place s
turn_at_make lim false callers frame child future place s = strayed

-- the turn at a join: the same task goes on with the value that was kept, if the other one is its unjoined child
abbrev pub turn_at_join : List Frame → Frame → ℕ → Progress → Turned
turn_at_join callers frame on s = if is_child on frame then goes_to callers (given frame (kept_value s on)) s else strayed

-- the turn at the end of a task: its caller goes on; if there is none, it was the first task
abbrev pub turn_at_end : List Frame → ℤ → Progress → Turned
turn_at_end [] value s = ended value s
turn_at_end (caller ∷ callers) value s = goes_to callers caller s

-- the turn by how its segment stopped, with this frame left
abbrev pub turn_at_stop : Bounds → List Frame → Frame → Stop → Progress → Turned
turn_at_stop lim callers frame (stops.Make child args effects spawned future place) s =
    turn_at_make lim spawned callers frame child future place s
turn_at_stop lim callers frame (stops.Waits on) s = strayed
turn_at_stop lim callers frame (stops.Joins on) s = turn_at_join callers frame on s
turn_at_stop lim callers frame (stops.Done value) s = turn_at_end callers value (with_value frame value s)
turn_at_stop lim callers frame (stops.Fault kind place) s = faulted kind place

-- the turn that carries out this segment
abbrev pub turn_after : Bounds → List Frame → Progress → Stopped → Turned
turn_after lim callers s after = turn_at_stop lim callers (frame_without_prints after.frame) after.stop (with_segment s after)

-- the code's turn, with the callers and the progress that it leaves, is this one
abbrev pub IsTurn : Turned → Turn → List Frame → Progress → Type 0
IsTurn turned (turn.Goes frame) callers s = turned ≡ goes_to callers frame s
IsTurn turned (turn.Ended value) callers s = turned ≡ ended value s

-- and so is its failure
abbrev pub IsFailure : Turned → ElideFail → Type 0
IsFailure turned (fail.Fault kind place) = turned ≡ faulted kind place
IsFailure turned fail.NotForkJoin = turned ≡ strayed
IsFailure turned (fail.OutOfMemory memory) = Unit {0}
