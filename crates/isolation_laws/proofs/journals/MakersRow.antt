-- The maker's row and the new row after a segment that makes a task.
use Rattle.std.proofs.Common.{◌≡◌, ℕ, ℤ, Bool, List, length, Option, None, Some, inl, inr, refl, sym, ◌∙◌, subst}
use Rattle.std.specs.Prelude.{slice_get}
use Rattle.twe_base.specs.declared.place.Place.{Place}
use Rattle.twe_base.specs.Limits.{Bounds}
use Rattle.effect_sets.specs.declared.effects.Summary.{Summary}
use Rattle.twe_program.specs.Program.{Program}
use Rattle.twe_program.specs.WellFormed.{IsWellFormed}
use Rattle.seg_meaning.specs.declared.frame.Frame.{Frame}
use Rattle.seg_meaning.specs.declared.frame.Next.TheVariants.{Go}
use Rattle.seg_meaning.specs.declared.stop.Stop.{Stop}
use Rattle.seg_meaning.specs.declared.stop.Stop.TheVariants as ends
use Rattle.seg_meaning.specs.Giving.{given}
use Rattle.seg_meaning.specs.Segment.{segment}
use Rattle.isolation_laws.specs.soundness.KeepsEffects.{KeepsEffects}
use Rattle.isolation_laws.specs.soundness.RunsWith.{RunsWith}
use Rattle.isolation_laws.proofs.soundness.Given.{given_runs}
use Rattle.isolation_laws.proofs.soundness.Segments.{segment_later, segment_makes}
use Rattle.machine_state.specs.segment_laws.Keeps.{NextAfter}
use Rattle.machine_state.proofs.segment_laws.SegmentKept.{segment_keeps}
use Rattle.machine_state.specs.declared.state.State.{State}
use Rattle.machine_state.specs.declared.state.TaskRow.{TaskRow}
use Rattle.machine_state.specs.Moves.{frame_without_prints, going_row, state_after_storing, state_after_join, joined_rows, making_frame, new_row, parent_of}
use Rattle.machine_state.specs.Rows.{IsRow}
use Rattle.isolation_laws.proofs.rows.AddedTask.{row_added, with_row}
use Rattle.isolation_laws.proofs.frames.AfterSegment.{after}
use Rattle.isolation_laws.proofs.rows.ListElements.{length_set}
use Rattle.isolation_laws.proofs.journals.PutBackKeeps.{runs_home}
use Rattle.isolation_laws.proofs.journals.Invariant.{Kept}

length_joined_by : (rows : List TaskRow) (child : ℕ) (r : Option TaskRow) → length (joined_rows rows child r) ≡ length rows
length_joined_by rows child None = refl
length_joined_by rows child (Some row) = length_set rows child _

pub length_joined : (st : State) (o : Option ℕ) → length (state_after_join st o).tasks ≡ length st.tasks
length_joined st None = refl
length_joined st (Some child) = length_joined_by st.tasks child (slice_get st.tasks child)

pub length_home : (st : State) (o : Option ℕ) (t : ℕ) (frame : Frame) (row : TaskRow) → length (state_after_storing (state_after_join st o) t frame row).tasks ≡ length st.tasks
length_home st o t frame row = length_set (state_after_join st o).tasks t row ∙ length_joined st o

-- the frame of a task that has made a task of this number, and the state without the new task
abbrev pub maker : Program → TaskRow → ℤ → List ℤ → Bool → ℕ → ℕ → Frame
maker p row value cells spawned future number = making_frame future spawned number (after p row.frame value cells)

abbrev pub mid : State → Option ℕ → ℕ → TaskRow → Frame → State
mid st o t row frame = state_after_storing (state_after_join st o) t frame (going_row row frame)

-- the segment of t stops at a make
abbrev pub StopsAtMake : Program → TaskRow → ℤ → List ℤ → Frame → List ℤ → Summary → Bool → ℕ → Place → Type 0
StopsAtMake p row value cells child args effects spawned future place =
    (segment p (given row.frame value) cells).stop ≡ ends.Make child args effects spawned future place

-- a segment of t, which runs with its arguments, has made a task
module _ (p : Program) (wf : IsWellFormed p) (keeps : KeepsEffects p) (lim : Bounds) (st : State) (kept : Kept p st) (o : Option ℕ) (t : ℕ) (row : TaskRow) (is_t : IsRow st t row)
    (value : ℤ) (cells : List ℤ) (child : Frame) (args : List ℤ) (effects : Summary) (spawned : Bool) (future : ℕ) (place : Place)
    (stop : StopsAtMake p row value cells child args effects spawned future place) (number : ℕ) where
  before_runs : RunsWith p row.args (given row.frame value)
  before_runs = given_runs p row.args row.frame (kept.runs t row is_t) value

  maker_runs : RunsWith p row.args (frame_without_prints (maker p row value cells spawned future number))
  maker_runs =
      let r = segment_later p wf keeps row.args (given row.frame value) before_runs cells in
      record { count = r.count; params = r.params; next = r.next }

  added_runs : RunsWith p args (new_row lim number (parent_of t spawned) child args effects).frame
  added_runs =
      let r = (segment_makes p wf keeps row.args (given row.frame value) before_runs cells child args effects spawned future place stop).0 in
      record { count = r.count; params = r.params; next = r.next }

  pub runs_made : (s : ℕ) (b : TaskRow)
      → IsRow (with_row (mid st o t row (maker p row value cells spawned future number)) (new_row lim number (parent_of t spawned) child args effects)) s b → RunsWith p b.args b.frame
  runs_made s b is =
      let frame = maker p row value cells spawned future number in
      elim (row_added (mid st o t row frame) (new_row lim number (parent_of t spawned) child args effects) s b is) [
        | inl new ↦ subst (λ (r : TaskRow). RunsWith p r.args r.frame) (sym new.1) added_runs
        | inr old ↦ runs_home p st kept o t row is_t frame (going_row row frame) maker_runs s b old
      ]

  pub goes_on : (after p row.frame value cells).next ≡ Go
  goes_on = subst (λ (s : Stop). NextAfter s (after p row.frame value cells)) stop (segment_keeps p (given row.frame value) cells).next
