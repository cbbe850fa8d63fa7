-- How the numbers of the rows change when a segment has stopped.
use Rattle.std.proofs.Common.{◌≡◌, ◌+◌, ℕ, ℤ, Bool, List, Option, Some, true, false, ◌∙◌, arith}
use Rattle.std.specs.Prelude.{if◌then◌else◌, nat_lt, slice_get, slice_set}
use Rattle.effect_sets.specs.declared.effects.Summary.{Summary}
use Rattle.twe_base.specs.declared.fault.FaultKind.TheVariants.{TaskLimit}
use Rattle.seg_journal.specs.declared.journal.End.{End}
use Rattle.seg_journal.specs.declared.journal.End.TheVariants as ends
use Rattle.twe_base.specs.Limits.{Bounds}
use Rattle.twe_base.specs.declared.place.Place.{Place}
use Rattle.seg_meaning.specs.declared.frame.Frame.{Frame}
use Rattle.seg_meaning.specs.declared.stop.Stop.{Stop}
use Rattle.seg_meaning.specs.declared.stop.Stop.TheVariants as stops
use Rattle.machine_state.specs.declared.state.State.{State}
use Rattle.machine_state.specs.declared.state.TaskRow.{TaskRow}
use Rattle.machine_state.specs.Moves.{going_row, done_row, faulted_row, making_frame, stopped_frame, new_row, parent_of, state_after_join, joined_row, stop_result, state_after_asking, state_after_make, state_after_fault}
use Rattle.machine_state.proofs.lists.RowNumbers.{number_at, hits, number_settled, number_added}

-- n if the segment ended its task with a value, else 0
abbrev pub if_done : ℕ → Stop → ℕ
if_done n (stops.Make child args effects spawned future place) = 0
if_done n (stops.Waits on) = 0
if_done n (stops.Joins on) = 0
if_done n (stops.Done value) = n
if_done n (stops.Fault kind place) = 0

-- the number of a row grows by d when its task is done, stays the same otherwise, and is 0 for a new task
pub record ChangesWhenDone (f : TaskRow → ℕ) (d : ℕ) (row : TaskRow) : Type 0 where
  pub joins : (r : TaskRow) → f (joined_row r) ≡ f r
  pub going : (frame : Frame) → f (going_row row frame) ≡ f row
  pub done : (frame : Frame) (value : ℤ) → f (done_row row frame value) ≡ f row + d
  pub failed : (frame : Frame) → f (faulted_row row frame) ≡ f row
  pub fresh : (lim : Bounds) (number t : ℕ) (spawned : Bool) (child : Frame) (args : List ℤ) (effects : Summary)
      → f (new_row lim number (parent_of t spawned) child args effects) ≡ 0

module _ (lim : Bounds) (st : State) (t : ℕ) (row : TaskRow) (found : slice_get st.tasks t ≡ Some row) (child : Option ℕ) (f : TaskRow → ℕ) (d : ℕ) (changes : ChangesWhenDone f d row) where
  -- the new row has the same number
  same_number : (u : ℕ) (new : TaskRow) → f new ≡ f row → number_at f (slice_get (slice_set (state_after_join st child).tasks t new) u) ≡ number_at f (slice_get st.tasks u) + hits t u 0
  same_number u new same = number_settled f changes.joins st child t u 0 row new found (same ∙ omega arith)

  made_number : (frame : Frame) (into : ℕ) (spawned : Bool) (task : Frame) (args : List ℤ) (effects : Summary) (place : Place) (u : ℕ) (fits : Bool)
      → number_at f (slice_get (if◌then◌else◌ {A = State × End} fits (state_after_make lim (state_after_join st child) t row frame into spawned task args effects, ends.Made ((state_after_join st child).asked + 1))
      (state_after_fault (state_after_asking (state_after_join st child)) t row (stopped_frame frame) TaskLimit place, ends.Fault TaskLimit place)).0.tasks u) ≡ number_at f (slice_get st.tasks u) + hits t u 0
  made_number frame into spawned task args effects place u true =
      let number = (state_after_join st child).asked + 1 in
      let maker = making_frame into spawned number frame in
      number_added f (slice_set (state_after_join st child).tasks t (going_row row maker)) u (new_row lim number (parent_of t spawned) task args effects) (changes.fresh lim number t spawned task args effects)
      ∙ same_number u (going_row row maker) (changes.going maker)
  made_number frame into spawned task args effects place u false = same_number u (faulted_row row (stopped_frame frame)) (changes.failed (stopped_frame frame))

  pub stopped_number : (frame : Frame) (stop : Stop) (u : ℕ) → number_at f (slice_get (stop_result lim (state_after_join st child) t row frame stop).0.tasks u) ≡ number_at f (slice_get st.tasks u) + hits t u (if_done d stop)
  stopped_number frame (stops.Make task args effects spawned into place) u = made_number frame into spawned task args effects place u (nat_lt ((state_after_join st child).asked + 1) lim.tasks)
  stopped_number frame (stops.Waits on) u = same_number u (going_row row frame) (changes.going frame)
  stopped_number frame (stops.Joins on) u = same_number u (going_row row frame) (changes.going frame)
  stopped_number frame (stops.Done value) u = number_settled f changes.joins st child t u d row (done_row row frame value) found (changes.done frame value)
  stopped_number frame (stops.Fault kind place) u = same_number u (faulted_row row frame) (changes.failed frame)
