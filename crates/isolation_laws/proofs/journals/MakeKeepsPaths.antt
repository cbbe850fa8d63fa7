-- After a segment that makes a task, each frame is on a control path.
use Rattle.std.proofs.Common.{◌≡◌, ℕ, ℤ, Bool, List, [], length, Option, Some, inl, inr, sym, ap, ◌∙◌, subst, arith, None}
use Rattle.std.specs.Prelude.{slice_get}
use Rattle.twe_base.specs.declared.place.Place.{Place}
use Rattle.twe_base.specs.Limits.{Bounds}
use Rattle.effect_sets.specs.declared.effects.Summary.{Summary}
use Rattle.twe_program.specs.declared.program.Decl.{Decl}
use Rattle.twe_program.specs.Program.{Program}
use Rattle.seg_meaning.specs.declared.frame.Frame.{Frame}
use Rattle.seg_meaning.specs.declared.stop.Stop.{Stop}
use Rattle.seg_meaning.specs.Entry.{entry_frame}
use Rattle.seg_meaning.specs.Giving.{given}
use Rattle.seg_meaning.specs.Meaning.{body_of}
use Rattle.effect_check.proofs.Members.{IsIn}
use Rattle.isolation_laws.specs.soundness.KeepsEffects.{KeepsEffects}
use Rattle.machine_state.specs.segment_laws.Keeps.{NextAfter}
use Rattle.machine_state.proofs.segment_laws.Following.{makes_follow}
use Rattle.machine_state.proofs.segment_laws.SegmentKept.{segment_keeps}
use Rattle.machine_state.specs.declared.state.State.{State}
use Rattle.machine_state.specs.declared.state.TaskRow.{TaskRow}
use Rattle.machine_state.specs.Moves.{going_row, new_row, parent_of}
use Rattle.machine_state.specs.Rows.{IsRow}
use Rattle.machine_state.proofs.standing.Standing.{Stands}
use Rattle.isolation_laws.proofs.rows.AddedTask.{before_length, row_added, with_row}
use Rattle.isolation_laws.proofs.frames.AfterSegment.{after}
use Rattle.isolation_laws.proofs.rows.RowsLater.{Continues}
use Rattle.isolation_laws.proofs.journals.EndsKeep.{going_became, on_path_emptied}
use Rattle.isolation_laws.proofs.frames.Frames.{OnPath, still_out}
use Rattle.isolation_laws.proofs.rows.FramePutBack.{continues_home, rows_home}
use Rattle.isolation_laws.proofs.journals.PutBackKeeps.{on_path_later}
use Rattle.isolation_laws.proofs.journals.Invariant.{Kept, child_there, taker}
use Rattle.isolation_laws.proofs.frames.AfterMake.{made_on_path}
use Rattle.isolation_laws.proofs.journals.MakersRow.{StopsAtMake, length_home, maker, mid}
use Rattle.isolation_laws.proofs.frames.EndedBody.{some_at_make}
use Rattle.isolation_laws.proofs.paths.FuturesOut.{reached_start}

-- a task before its first segment is at the start of its body
pub on_path_entry : (p : Program) (rows : List TaskRow) (task : ℕ) (args : List ℤ) (number fuel : ℕ) → OnPath p rows (record (entry_frame p task args) { task = number; fuel = fuel })
on_path_entry p rows task args number fuel = record {
  path = [];
  reached = reached_start (body_of (slice_get p.tasks task));
  children = λ u b here is. absurd here;
}

-- a frame whose children were there before stays on its path
on_path_added : (p : Program) (old mid : State) (row : TaskRow) (frame : Frame) → Continues old mid → length mid.tasks ≡ length old.tasks
    → ((u : ℕ) → IsIn u (still_out frame.next frame.out.items) → (a : TaskRow) × IsRow old u a) → OnPath p old.tasks frame → OnPath p (with_row mid row).tasks frame
on_path_added p old mid row frame continues same there on_path =
    let in_mid = on_path_later p old mid frame continues on_path in
    record {
      path = in_mid.path;
      reached = in_mid.reached;
      children = λ u b here is. elim (row_added mid row u b is) [
        | inl new ↦
            let a = there u here in
            let below = before_length old row u a.0 a.1 in
            absurd (omega (arith, new.0))
        | inr before ↦ in_mid.children u b here before
      ];
    }

module _ (p : Program) (keeps : KeepsEffects p) (lim : Bounds) (st : State) (stands : Stands p lim st) (kept : Kept p st) (o : Option ℕ) (t : ℕ) (row : TaskRow) (is_t : IsRow st t row)
    (value : ℤ) (cells : List ℤ) (child : Frame) (args : List ℤ) (effects : Summary) (spawned : Bool) (future : ℕ) (place : Place)
    (stop : StopsAtMake p row value cells child args effects spawned future place) (number : ℕ) (counted : number ≡ length st.tasks) where
  abbrev frame : Frame
  frame = maker p row value cells spawned future number

  abbrev added : TaskRow
  added = new_row lim number (parent_of t spawned) child args effects

  continues : Continues st (mid st o t row frame)
  continues = continues_home st o t row is_t frame (going_row row frame) (going_became row frame)

  same_length : length (mid st o t row frame).tasks ≡ length st.tasks
  same_length = length_home st o t frame (going_row row frame)

  pub own_path : OnPath p st.tasks row.frame
  own_path = kept.paths t row is_t (some_at_make p row.frame value cells child args effects spawned future place stop)

  pub declared_there : (decl : Decl) × (slice_get p.tasks row.frame.decl ≡ Some decl)
  declared_there = taker (slice_get p.tasks row.frame.decl) (length row.args) (kept.runs t row is_t).count

  fresh : (a : TaskRow) → ¬ IsRow st number a
  fresh a is = let below = before_length st a number a is in omega (arith, counted)

  maker_path : OnPath p (with_row (mid st o t row frame) added).tasks frame
  maker_path =
      made_on_path p keeps declared_there.0 st row.frame declared_there.1 value cells (stands.rows t row is_t).ready own_path child args effects spawned future place stop
      (with_row (mid st o t row frame) added) number (subst (λ (s : Stop). NextAfter s (after p row.frame value cells)) stop (segment_keeps p (given row.frame value) cells).next)
      (λ u b is. elim (row_added (mid st o t row frame) added u b is) [
        | inl new ↦ inl (new.0 ∙ (same_length ∙ sym counted), ap (λ (r : TaskRow). r.effects) new.1)
        | inr before ↦ let a = continues u b before in inr (a.0, a.1, a.2.effects)
      ])
      fresh (child_there p lim st stands t row is_t)

  added_path : OnPath p (with_row (mid st o t row frame) added).tasks added.frame
  added_path =
      let comes = makes_follow p (given row.frame value) cells [] child args effects spawned future place stop in
      subst (λ (f : Frame). OnPath p (with_row (mid st o t row frame) added).tasks (record f { task = number; fuel = lim.fuel })) (sym comes.child_is)
      (on_path_entry p (with_row (mid st o t row frame) added).tasks comes.task args number lim.fuel)

  pub paths_made : (s : ℕ) (b : TaskRow) → IsRow (with_row (mid st o t row frame) added) s b → ¬ (b.frame.body ≡ None) → OnPath p (with_row (mid st o t row frame) added).tasks b.frame
  paths_made s b is some =
      let new = with_row (mid st o t row frame) added in
      elim (row_added (mid st o t row frame) added s b is) [
        | inl last ↦ subst (λ (r : TaskRow). OnPath p new.tasks r.frame) (sym last.1) added_path
        | inr before ↦ elim (rows_home st o t row is_t frame (going_row row frame) s b before) [
          | inl here ↦ subst (λ (r : TaskRow). OnPath p new.tasks r.frame) (sym here.1) (on_path_emptied p new.tasks frame maker_path)
          | inr other ↦
              let a = other.1.0 in
              let same = other.1.2.frame in
              subst (λ (f : Frame). OnPath p new.tasks f) (sym same)
              (on_path_added p st (mid st o t row frame) added a.frame continues same_length (child_there p lim st stands s a other.1.1)
              (kept.paths s a other.1.1 (λ none. some (ap (λ (f : Frame). f.body) same ∙ none))))
        ]
      ]
