-- Executions, put together from their segments without a bound.
use Rattle.std.specs.Prelude.{◌≡◌, ◌<◌, ℕ, ℤ, true, List, length}
use Rattle.twe_base.specs.declared.place.Place.{Place}
use Rattle.effect_sets.specs.declared.effects.Summary.{Summary}
use Rattle.twe_base.specs.Limits.{Bounds}
use Rattle.twe_program.specs.Program.{Program}
use Rattle.seg_meaning.specs.declared.frame.Frame.{Frame}
use Rattle.seg_meaning.specs.declared.stop.Stop.TheVariants.{Make, Joins, Done}
use Rattle.seg_meaning.specs.Giving.{given}
use Rattle.seg_meaning.specs.Segment.{segment}
use Rattle.machine_state.specs.Moves.{frame_without_prints, making_frame}
use Rattle.determinism_laws.specs.declared.elision.progress.Progress.{Progress}
use Rattle.determinism_laws.specs.elision.Elision.{ends, first_frame, is_child, kept_value, run_within, with_segment, with_task, with_value}

-- the execution of the task with this frame has ended, within some bound, with this value and having done this
abbrev pub RunsTo : Program → Bounds → Frame → Progress → ℤ → Progress → Type 0
RunsTo p lim frame s value after = (n : ℕ) × (run_within p lim n frame s ≡ ends value after)

-- the frame after the next segment
abbrev pub next_frame : Program → Frame → Progress → Frame
next_frame p frame s = frame_without_prints (segment p frame s.cells).frame

-- what was done up to the end of the next segment
abbrev pub next_progress : Program → Frame → Progress → Progress
next_progress p frame s = with_segment s (segment p frame s.cells)

-- a segment that ends its task ends the execution of the task
abbrev pub EndsAtDone : Type 0
EndsAtDone =
    (p : Program) (lim : Bounds) (frame : Frame) (s : Progress) (value : ℤ) → (segment p frame s.cells).stop ≡ Done value
    → RunsTo p lim frame s value (with_value (next_frame p frame s) value (next_progress p frame s))

-- after a segment that stops at the join of an unjoined child, the execution goes on with the child's value
abbrev pub GoesOnAtJoin : Type 0
GoesOnAtJoin =
    (p : Program) (lim : Bounds) (frame : Frame) (s after : Progress) (on : ℕ) (value : ℤ)
    → (segment p frame s.cells).stop ≡ Joins on
    → is_child on (next_frame p frame s) ≡ true
    → RunsTo p lim (given (next_frame p frame s) (kept_value (next_progress p frame s) on)) (next_progress p frame s) value after
    → RunsTo p lim frame s value after

-- after a segment that stops at a spawn, the execution of the child comes first, and then that of its parent goes on
abbrev pub GoesOnAtSpawn : Type 0
GoesOnAtSpawn =
    (p : Program) (lim : Bounds) (frame child : Frame) (s between after : Progress)
    (args : List ℤ) (effects : Summary) (future : ℕ) (place : Place) (returned value : ℤ)
    → (segment p frame s.cells).stop ≡ Make child args effects true future place → length s.values < lim.tasks
    → RunsTo p lim (first_frame lim (length s.values) child) (with_task (next_progress p frame s)) returned between
    → RunsTo p lim (making_frame future true (length s.values) (next_frame p frame s)) between value after
    → RunsTo p lim frame s value after
