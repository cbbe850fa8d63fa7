-- The frames from which the segments of a task start, one after another.
use Rattle.std.specs.Prelude.{◌≡◌, ℕ, suc, ℤ, Bool, List}
use Rattle.twe_base.specs.declared.place.Place.{Place}
use Rattle.effect_sets.specs.declared.effects.Summary.{Summary}
use Rattle.seg_journal.specs.declared.journal.End.TheVariants as entry_ends
use Rattle.seg_journal.specs.declared.journal.Entry.{Entry}
use Rattle.twe_base.specs.Limits.{Bounds}
use Rattle.twe_program.specs.Program.{Program}
use Rattle.seg_meaning.specs.declared.frame.Frame.{Frame}
use Rattle.seg_meaning.specs.declared.stop.Stop.TheVariants as stops
use Rattle.seg_meaning.specs.Giving.{given}
use Rattle.seg_meaning.specs.Segment.{Stopped, segment}
use Rattle.machine_state.specs.declared.state.TaskRow.{TaskRow}
use Rattle.machine_state.specs.Changes.{IsDoneWith}
use Rattle.machine_state.specs.Moves.{frame_without_prints, making_frame, ready_frame}
use Rattle.machine_state.specs.Rows.{IsRow}
use Rattle.machine_state.specs.Runs.{state_after}
use Rattle.determinism_laws.specs.Execution.{IsNextSegment}
use Rattle.determinism_laws.specs.Segments.{IsSegmentOf, Spawns, state_before}

-- The segment of task u at this place starts from this frame, which has taken the awaited value if the task waited.
pub record StartsFrom (p : Program) (lim : Bounds) (journal : List Entry) (u place : ℕ) (frame : Frame) : Type 0 where
  pub segment : IsSegmentOf journal u place
  pub row : TaskRow
  pub there : IsRow (state_before p lim journal place) u row
  pub frame_is : frame ≡ ready_frame (state_before p lim journal place).tasks row.frame

-- what the segment at this place leaves, if it starts from this frame
abbrev pub left_at : Program → Bounds → List Entry → ℕ → Frame → Stopped
left_at p lim journal place frame = segment p frame (state_before p lim journal place).cells

-- after a segment that stops at a join, the next one starts from the frame that it left, once that has taken the value that
-- the joined task has at the end
abbrev pub JoinsTakeValues : Program → Bounds → List Entry → Type 0
JoinsTakeValues p lim journal =
    (u place next on : ℕ) (frame : Frame) (value : ℤ) → StartsFrom p lim journal u place frame
    → (left_at p lim journal place frame).stop ≡ stops.Joins on
    → IsNextSegment journal u (suc place) next → IsDoneWith (state_after p lim journal) on value
    → StartsFrom p lim journal u next (given (frame_without_prints (left_at p lim journal place frame).frame) value)

-- after a segment that made a task, the next one starts from the frame that it left, in which the future stands for that
-- task, and a spawned task is the last of the unjoined children
abbrev pub MakersGoOn : Program → Bounds → List Entry → Type 0
MakersGoOn p lim journal =
    (u place next child : ℕ) (frame made : Frame)
    (args : List ℤ) (effects : Summary) (spawned : Bool) (future : ℕ) (fault_place : Place)
    → (starts : StartsFrom p lim journal u place frame)
    → (left_at p lim journal place frame).stop ≡ stops.Make made args effects spawned future fault_place
    → starts.segment.entry.end ≡ entry_ends.Made child → IsNextSegment journal u (suc place) next
    → StartsFrom p lim journal u next
    (making_frame future spawned child (frame_without_prints (left_at p lim journal place frame).frame))

-- a segment that finishes its task gives it the value that it has at the end
abbrev pub EndsGiveValues : Program → Bounds → List Entry → Type 0
EndsGiveValues p lim journal =
    (u place : ℕ) (frame : Frame) (value : ℤ) → StartsFrom p lim journal u place frame
    → (left_at p lim journal place frame).stop ≡ stops.Done value
    → IsDoneWith (state_after p lim journal) u value

-- the first segment of a spawned task starts from the frame that was made for it, with its number and all of the fuel
abbrev pub ChildrenBegin : Program → Bounds → List Entry → Type 0
ChildrenBegin p lim journal =
    (u place child first : ℕ) (frame made : Frame)
    (args : List ℤ) (effects : Summary) (spawned : Bool) (future : ℕ) (fault_place : Place)
    → Spawns p lim journal u place child → StartsFrom p lim journal u place frame
    → (left_at p lim journal place frame).stop ≡ stops.Make made args effects spawned future fault_place
    → IsNextSegment journal child (suc place) first
    → StartsFrom p lim journal child first (record made { task = child; fuel = lim.fuel })
