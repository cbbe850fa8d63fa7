-- What the next segment of a task keeps of each row, and what a task that it makes has.
use Rattle.std.proofs.Common.{◌≡◌, ◌≢◌, ℕ, Bool, true, false, length, Option, None, Some, refl, sym, ap, ◌∙◌, subst}
use Rattle.std.specs.Prelude.{◌==◌, if◌then◌else◌}
use Rattle.twe_base.specs.Limits.{Bounds}
use Rattle.seg_meaning.specs.declared.frame.Frame.{Frame}
use Rattle.seg_meaning.specs.declared.stop.Stop.{Stop}
use Rattle.seg_meaning.specs.declared.stop.Stop.TheVariants as stops
use Rattle.seg_meaning.specs.Segment.{Stopped}
use Rattle.machine_state.specs.declared.state.State.{State}
use Rattle.machine_state.specs.declared.state.TaskRow.{TaskRow}
use Rattle.machine_state.specs.declared.state.TaskStatus.TheVariants.{Done, Enabled, Made}
use Rattle.machine_state.specs.Moves.{admitted_row, joined_row, new_row}
use Rattle.machine_state.specs.Rows.{IsRow}
use Rattle.determinism_laws.proofs.MovedRows.{RowsAfter, child_joined, made_after, marked, own_after}
use Rattle.determinism_laws.proofs.SameMoves.{WasRow, its_own, was_made, was_row, was_there}

-- The task that ran.

pub own_effects : (stop : Stop) (number : ℕ) (row : TaskRow) (frame : Frame) → (own_after stop number row frame).effects ≡ row.effects
own_effects (stops.Make child args effects spawned future place) number row frame = refl
own_effects (stops.Waits on) number row frame = refl
own_effects (stops.Joins on) number row frame = refl
own_effects (stops.Done value) number row frame = refl
own_effects (stops.Fault kind place) number row frame = refl

own_decl : (stop : Stop) (number : ℕ) (row : TaskRow) (frame : Frame) → (own_after stop number row frame).decl ≡ row.decl
own_decl (stops.Make child args effects spawned future place) number row frame = refl
own_decl (stops.Waits on) number row frame = refl
own_decl (stops.Joins on) number row frame = refl
own_decl (stops.Done value) number row frame = refl
own_decl (stops.Fault kind place) number row frame = refl

not_made : (stop : Stop) (number : ℕ) (row : TaskRow) (frame : Frame) → row.status ≡ Enabled → (own_after stop number row frame).status ≢ Made
not_made (stops.Make child args effects spawned future place) number row frame enabled made = let both : Enabled ≡ Made = sym enabled ∙ made in cc (both)
not_made (stops.Waits on) number row frame enabled made = let both : Enabled ≡ Made = sym enabled ∙ made in cc (both)
not_made (stops.Joins on) number row frame enabled made = let both : Enabled ≡ Made = sym enabled ∙ made in cc (both)
not_made (stops.Done value) number row frame enabled made = cc (made)
not_made (stops.Fault kind place) number row frame enabled made = cc (made)

-- Marks.

mark_effects : (row : TaskRow) (b : Bool) → (if b then joined_row row else row).effects ≡ row.effects
mark_effects row true = refl
mark_effects row false = refl

mark_decl : (row : TaskRow) (b : Bool) → (if b then joined_row row else row).decl ≡ row.decl
mark_decl row true = refl
mark_decl row false = refl

mark_status : (row : TaskRow) (b : Bool) → (if b then joined_row row else row).status ≡ row.status
mark_status row true = refl
mark_status row false = refl

mark_admitted : (row : TaskRow) (b : Bool) → admitted_row (if b then joined_row row else row) ≡ (if b then joined_row (admitted_row row) else admitted_row row)
mark_admitted row true = refl
mark_admitted row false = refl

pub marked_effects : (child : Option ℕ) (u : ℕ) (row : TaskRow) → (marked child u row).effects ≡ row.effects
marked_effects None u row = refl
marked_effects (Some c) u row = mark_effects row (c == u)

pub marked_decl : (child : Option ℕ) (u : ℕ) (row : TaskRow) → (marked child u row).decl ≡ row.decl
marked_decl None u row = refl
marked_decl (Some c) u row = mark_decl row (c == u)

pub marked_status : (child : Option ℕ) (u : ℕ) (row : TaskRow) → (marked child u row).status ≡ row.status
marked_status None u row = refl
marked_status (Some c) u row = mark_status row (c == u)

pub marked_admitted : (child : Option ℕ) (u : ℕ) (row : TaskRow) → admitted_row (marked child u row) ≡ marked child u (admitted_row row)
marked_admitted None u row = refl
marked_admitted (Some c) u row = mark_admitted row (c == u)

-- A row after the segment: of a task that was there, or of the one that was made.

pub record KeepsRow (before after : TaskRow) : Type 0 where
  pub effects : before.effects.effects ≡ after.effects.effects
  pub decl : before.decl ≡ after.decl
  pub enabled : after.status ≡ Enabled → before.status ≡ Enabled
  pub made : after.status ≡ Made → before.status ≡ Made
  pub undone : after.status ≢ Done → before.status ≢ Done

pub data CameFrom (lim : Bounds) (st : State) (t : ℕ) (left : Stopped) (u : ℕ) (r : TaskRow) : Type 0 where
  from_old : (before : TaskRow) → IsRow st u before → KeepsRow before r → CameFrom lim st t left u r
  from_make : u ≡ length st.tasks → made_after lim t left.stop (length st.tasks) ≡ Some r → CameFrom lim st t left u r

pub came_from : (lim : Bounds) (st new : State) (t : ℕ) (row : TaskRow) (left : Stopped) → IsRow st t row → row.status ≡ Enabled → RowsAfter lim st new t row left
    → (u : ℕ) (r : TaskRow) → IsRow new u r → CameFrom lim st t left u r
came_from lim st new t row left here enabled rows u r at = by_row (was_row lim st new t row left rows u r at)
  where
    by_row : WasRow lim st t row left u r → CameFrom lim st t left u r
    by_row (its_own is row_is) =
        let own = own_after left.stop (length st.tasks) row left.frame in
        from_old row (subst (λ (n : ℕ). IsRow st n row) (sym is) here) (record {
          effects = sym (ap (λ (x : TaskRow). x.effects.effects) row_is ∙ ap (λ e. e.effects) (own_effects left.stop (length st.tasks) row left.frame));
          decl = sym (ap (λ (x : TaskRow). x.decl) row_is ∙ own_decl left.stop (length st.tasks) row left.frame);
          enabled = λ e. enabled;
          made = λ made. absurd (not_made left.stop (length st.tasks) row left.frame enabled (sym (ap (λ (x : TaskRow). x.status) row_is) ∙ made));
          undone = λ undone done. let both : Enabled ≡ Done = sym enabled ∙ done in cc (both);
        })
    by_row (was_there old differ old_at is) =
        let child = child_joined row in
        let status : r.status ≡ old.status = ap (λ (x : TaskRow). x.status) is ∙ marked_status child u old in
        from_old old old_at (record {
          effects = sym (ap (λ (x : TaskRow). x.effects.effects) is ∙ ap (λ e. e.effects) (marked_effects child u old));
          decl = sym (ap (λ (x : TaskRow). x.decl) is ∙ marked_decl child u old);
          enabled = λ e. sym status ∙ e;
          made = λ e. sym status ∙ e;
          undone = λ undone done. undone (status ∙ done);
        })
    by_row (was_made is asked made) = from_make is made

-- A task that was made and is enabled at once is a child of the task that ran.
pub spawned_parent : (lim : Bounds) (t : ℕ) (stop : Stop) (number : ℕ) (r : TaskRow) → made_after lim t stop number ≡ Some r → r.status ≡ Enabled → r.parent ≡ Some t
spawned_parent lim t (stops.Make child args effects true future place) number r made enabled =
    let same : new_row lim number (Some t) child args effects ≡ r = cc (made) in sym (ap (λ (x : TaskRow). x.parent) same)
spawned_parent lim t (stops.Make child args effects false future place) number r made enabled =
    let same : new_row lim number None child args effects ≡ r = cc (made) in
    let both : Made ≡ Enabled = ap (λ (x : TaskRow). x.status) same ∙ enabled in
    absurd (cc (both))
spawned_parent lim t (stops.Waits on) number r made enabled = absurd (cc (made))
spawned_parent lim t (stops.Joins on) number r made enabled = absurd (cc (made))
spawned_parent lim t (stops.Done value) number r made enabled = absurd (cc (made))
spawned_parent lim t (stops.Fault kind place) number r made enabled = absurd (cc (made))
