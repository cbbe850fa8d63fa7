-- The counts after each legal move.
use Rattle.std.proofs.Common.{◌≡◌, ◌+◌, ◌<◌, ◌==◌, ◌&&◌, ℕ, ℤ, zero, suc, Bool, List, [], ◌∷◌, ◌++◌, length, Option, Some, true, false, cond, refl, sym, ap, ◌∙◌, arith, length-append, length-set}
use Rattle.std.specs.Prelude.{if◌then◌else◌, nat_lt, slice_get, slice_set}
use Rattle.std.proofs.lemmas.Bool.{ltb-true}
use Rattle.std.proofs.lemmas.Bool.Decides.{nat_tests}
use Rattle.effect_sets.specs.declared.effects.Summary.{Summary}
use Rattle.twe_base.specs.declared.fault.FaultKind.TheVariants.{TaskLimit}
use Rattle.seg_journal.specs.declared.journal.End.{End}
use Rattle.seg_journal.specs.declared.journal.End.TheVariants as ends
use Rattle.twe_base.specs.Limits.{Bounds}
use Rattle.twe_base.specs.declared.place.Place.{Place}
use Rattle.seg_meaning.specs.declared.frame.Frame.{Frame}
use Rattle.seg_meaning.specs.declared.stop.Stop.{Stop}
use Rattle.seg_meaning.specs.declared.stop.Stop.TheVariants as stops
use Rattle.machine_state.specs.declared.state.State.{State}
use Rattle.machine_state.specs.declared.state.TaskRow.{TaskRow}
use Rattle.machine_state.specs.declared.state.TaskStatus.TheVariants.{Enabled}
use Rattle.machine_state.specs.Moves.{done_row, faulted_row, going_row, making_frame, stopped_frame, new_row, parent_of, state_after_join, stop_result, state_after_asking, state_after_make, state_after_fault}
use Rattle.machine_state.specs.Runs.{makes_task, is_done}
use Rattle.machine_state.proofs.counts.JournalCounts.{times_made, times_admitted, times_finished, admitted_changes, finished_changes}
use Rattle.machine_state.proofs.counts.StoppedNumbers.{if_done, stopped_number}
use Rattle.machine_state.proofs.weight.Falls.{CountsMade}
use Rattle.machine_state.proofs.weight.JoinedWeight.{asked_joined, length_joined}
use Rattle.machine_state.proofs.lists.RowNumbers.{number_at, hits, hits_is, hits_none}

-- one more task was made
made_once : (u n : ℕ) → 0 < n → times_made u (n + 1) ≡ times_made u n + cond (n == u) 1 0
made_once zero n some = grind (arith, nat_tests)
made_once (suc u) n some = grind (arith, nat_tests)

-- how a move of t changes how often u was made and finished
pub record CountsOn (u : ℕ) (t : ℕ) (before : State) (after : State × End) : Type 0 where
  pub made : times_made u (length after.0.tasks) ≡ times_made u (length before.tasks) + cond (makes_task u after.1) 1 0
  pub finished : number_at times_finished (slice_get after.0.tasks u) ≡ number_at times_finished (slice_get before.tasks u) + cond (is_done after.1 && (t == u)) 1 0

module _ (lim : Bounds) (st : State) (t : ℕ) (row : TaskRow) (found : slice_get st.tasks t ≡ Some row) (enabled : row.status ≡ Enabled) (child : Option ℕ) where
  -- as many tasks, or one more
  length_placed : (new : TaskRow) → length (slice_set (state_after_join st child).tasks t new) ≡ length st.tasks
  length_placed new = length-set (state_after_join st child).tasks t new ∙ length_joined st child

  same_made : (u : ℕ) (new : TaskRow) → times_made u (length (slice_set (state_after_join st child).tasks t new)) ≡ times_made u (length st.tasks) + 0
  same_made u new = ap (times_made u) (length_placed new) ∙ omega arith

  one_made : (u : ℕ) (new other : TaskRow) → 0 < length st.tasks → CountsMade lim st → (state_after_join st child).asked + 1 < lim.tasks
      → times_made u (length (slice_set (state_after_join st child).tasks t new ++ other ∷ [])) ≡ times_made u (length st.tasks) + cond (((state_after_join st child).asked + 1) == u) 1 0
  one_made u new other some counts below =
      let asked = asked_joined st child in
      let number : (state_after_join st child).asked + 1 ≡ length st.tasks = let is = counts (omega (arith, below, asked)) in omega (arith, is, asked) in
      let more : length (slice_set (state_after_join st child).tasks t new ++ other ∷ []) ≡ length st.tasks + 1 =
      length-append (slice_set (state_after_join st child).tasks t new) (other ∷ []) ∙ ap (λ (n : ℕ). n + 1) (length_placed new) in
      ap (times_made u) more ∙ (made_once u (length st.tasks) some ∙ ap (λ (n : ℕ). times_made u (length st.tasks) + cond (n == u) 1 0) (sym number))

  -- the task is not done
  not_done : (u : ℕ) (later : State) (end : End) → is_done end ≡ false
      → number_at times_finished (slice_get later.tasks u) ≡ number_at times_finished (slice_get st.tasks u) + hits t u 0
      → number_at times_finished (slice_get later.tasks u) ≡ number_at times_finished (slice_get st.tasks u) + cond (is_done end && (t == u)) 1 0
  not_done u later end going same = same ∙ ap (λ (n : ℕ). number_at times_finished (slice_get st.tasks u) + n) (hits_none t u ∙ ap (λ (b : Bool). cond (b && (t == u)) 1 0) (sym going))

  made_counts : (frame : Frame) (into : ℕ) (spawned : Bool) (task : Frame) (args : List ℤ) (effects : Summary) (place : Place) (u : ℕ) (fits : Bool)
      → 0 < length st.tasks → CountsMade lim st → nat_lt ((state_after_join st child).asked + 1) lim.tasks ≡ fits
      → let after = if◌then◌else◌ {A = State × End} fits (state_after_make lim (state_after_join st child) t row frame into spawned task args effects, ends.Made ((state_after_join st child).asked + 1))
      (state_after_fault (state_after_asking (state_after_join st child)) t row (stopped_frame frame) TaskLimit place, ends.Fault TaskLimit place) in
      number_at times_finished (slice_get after.0.tasks u) ≡ number_at times_finished (slice_get st.tasks u) + hits t u 0 → CountsOn u t st after
  made_counts frame into spawned task args effects place u true some counts e same =
      let number = (state_after_join st child).asked + 1 in
      let maker = making_frame into spawned number frame in
      record {
        made = one_made u (going_row row maker) (new_row lim number (parent_of t spawned) task args effects) some counts (ltb-true number lim.tasks e);
        finished = not_done u (state_after_make lim (state_after_join st child) t row frame into spawned task args effects) (ends.Made number) refl same;
      }
  made_counts frame into spawned task args effects place u false some counts e same = record {
    made = same_made u (faulted_row row (stopped_frame frame));
    finished = not_done u (state_after_fault (state_after_asking (state_after_join st child)) t row (stopped_frame frame) TaskLimit place) (ends.Fault TaskLimit place) refl same;
  }

  pub stopped_counts : (frame : Frame) (stop : Stop) (u : ℕ) → 0 < length st.tasks → CountsMade lim st → CountsOn u t st (stop_result lim (state_after_join st child) t row frame stop)
  stopped_counts frame (stops.Make task args effects spawned into place) u some counts =
      made_counts frame into spawned task args effects place u _ some counts refl
      (stopped_number lim st t row found child times_finished 1 (finished_changes row enabled) frame (stops.Make task args effects spawned into place) u)
  stopped_counts frame (stops.Waits on) u some counts = record {
    made = same_made u (going_row row frame);
    finished = not_done u (stop_result lim (state_after_join st child) t row frame (stops.Waits on)).0 (ends.Waits on) refl
        (stopped_number lim st t row found child times_finished 1 (finished_changes row enabled) frame (stops.Waits on) u);
  }
  stopped_counts frame (stops.Joins on) u some counts = record {
    made = same_made u (going_row row frame);
    finished = not_done u (stop_result lim (state_after_join st child) t row frame (stops.Joins on)).0 (ends.Joins on) refl
        (stopped_number lim st t row found child times_finished 1 (finished_changes row enabled) frame (stops.Joins on) u);
  }
  stopped_counts frame (stops.Done value) u some counts = record {
    made = same_made u (done_row row frame value);
    finished = stopped_number lim st t row found child times_finished 1 (finished_changes row enabled) frame (stops.Done value) u
        ∙ ap (λ (n : ℕ). number_at times_finished (slice_get st.tasks u) + n) (hits_is t u 1);
  }
  stopped_counts frame (stops.Fault kind place) u some counts = record {
    made = same_made u (faulted_row row frame);
    finished = not_done u (stop_result lim (state_after_join st child) t row frame (stops.Fault kind place)).0 (ends.Fault kind place) refl
        (stopped_number lim st t row found child times_finished 1 (finished_changes row enabled) frame (stops.Fault kind place) u);
  }

  none_done : (stop : Stop) → if_done 0 stop ≡ 0
  none_done (stops.Make task args effects spawned into place) = refl
  none_done (stops.Waits on) = refl
  none_done (stops.Joins on) = refl
  none_done (stops.Done value) = refl
  none_done (stops.Fault kind place) = refl

  pub stopped_admitted : (frame : Frame) (stop : Stop) (u : ℕ) → number_at times_admitted (slice_get (stop_result lim (state_after_join st child) t row frame stop).0.tasks u) ≡ number_at times_admitted (slice_get st.tasks u)
  stopped_admitted frame stop u =
      let same = stopped_number lim st t row found child times_admitted 0 (admitted_changes row enabled) frame stop u in
      let no : hits t u (if_done 0 stop) ≡ 0 = ap (λ (n : ℕ). hits t u n) (none_done stop) ∙ hits_none t u in
      omega (arith, same, no)
