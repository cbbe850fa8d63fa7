-- The first entry after which an enabled task is enabled no more is the one that finished it, if the task is done at the end.
use Rattle.std.proofs.Common.{◌≡◌, ◌⊎◌, ◌+◌, ℕ, zero, suc, ℤ, List, length, inl, inr, refl, sym, ap, ◌∙◌, subst, arith, take_all}
use Rattle.std.specs.Prelude.{slice_get, take}
use Rattle.std.proofs.lemmas.Bool.{cases_eq}
use Rattle.seg_journal.specs.declared.journal.End.{End}
use Rattle.seg_journal.specs.declared.journal.End.TheVariants as ends
use Rattle.seg_journal.specs.declared.journal.Entry.{Entry}
use Rattle.twe_base.specs.Limits.{Bounds}
use Rattle.twe_program.specs.Program.{Program}
use Rattle.twe_program.specs.WellFormed.{IsWellFormed}
use Rattle.seg_meaning.specs.declared.frame.Frame.{Frame}
use Rattle.isolation_laws.specs.soundness.KeepsEffects.{KeepsEffects}
use Rattle.machine_state.specs.declared.state.State.{State}
use Rattle.machine_state.specs.declared.state.TaskRow.{TaskRow}
use Rattle.machine_state.specs.declared.state.TaskStatus.{TaskStatus}
use Rattle.machine_state.specs.declared.state.TaskStatus.TheVariants.{Enabled, Done, Faulted}
use Rattle.machine_state.specs.Moves.{ready_frame}
use Rattle.machine_state.specs.Rows.{HasStatus, IsRow}
use Rattle.machine_state.specs.Runs.{Legal, state_after}
use Rattle.machine_state.proofs.lists.Places.{got_one}
use Rattle.determinism_laws.specs.Frames.{StartsFrom}
use Rattle.determinism_laws.specs.Segments.{IsSegmentOf, state_before}
use Rattle.determinism_laws.specs.Sequential.{IsEnabledThroughout}
use Rattle.determinism_laws.proofs.FinalValues.{ends_give_values}
use Rattle.determinism_laws.proofs.JournalPlaces.{later_at}
use Rattle.determinism_laws.proofs.NewTasks.{left_by}
use Rattle.determinism_laws.proofs.Statuses.{StatusAfter, next_segment_of, segment_or_not, status_after, status_kept}
use Rattle.determinism_laws.proofs.Trees.{runner}
use Rattle.determinism_laws.proofs.theorem.Stops.{done_stop, end_of}
use Rattle.determinism_laws.specs.results.Results.{IsFinishedBy}

module _ (p : Program) (wf : IsWellFormed p) (keeps : KeepsEffects p) (lim : Bounds) (journal : List Entry) (legal : Legal p lim journal) (t : ℕ) (last : TaskRow)
    (there : IsRow (state_after p lim journal) t last) (done : last.status ≡ Done) where
  abbrev st : ℕ → State
  st n = state_before p lim journal n

  -- t was enabled before each of these entries, and the last of them finished it
  pub record Finished (from : ℕ) : Type 0 where
    pub count : ℕ
    pub enabled : IsEnabledThroughout p lim journal t from (suc count)
    pub by : IsFinishedBy journal t (from + count) last.value
    pub ended : HasStatus (st (suc (from + count))) t Done

  abbrev StillEnabled : ℕ → ℕ → Type 0
  StillEnabled from count = IsEnabledThroughout p lim journal t from count × HasStatus (st (from + count)) t Enabled

  one_more : (from count : ℕ) → StillEnabled from count → IsEnabledThroughout p lim journal t from (suc count)
  one_more from count still n least most = elim (cases_eq n (from + count)) [
    | inl same ↦ subst (λ (k : ℕ). HasStatus (st k) t Enabled) (sym same) still.1
    | inr differ ↦ still.0 n least (omega (arith, most, differ))
  ]

  goes_on : (from count : ℕ) → StillEnabled from count → HasStatus (st (suc (from + count))) t Enabled → StillEnabled from (suc count)
  goes_on from count still has =
      let place : suc (from + count) ≡ from + suc count = omega arith in
      (one_more from count still, subst (λ (n : ℕ). HasStatus (st n) t Enabled) place has)

  -- a task with a fault is never done
  no_fault : (n : ℕ) → HasStatus (st n) t Faulted → ⊥
  no_fault n faulted =
      let found = next_segment_of p wf lim journal legal t n Faulted (λ e. cc (e)) (λ e. cc (e)) faulted (last, there, done) in
      let may = runner p wf keeps lim journal legal t found.0 found.1.segment in
      let same : found.2.0 ≡ may.0.0 = got_one (slice_get (st found.0).tasks t) found.2.1 may.0.1 in
      let both : Faulted ≡ Enabled = sym found.2.2 ∙ (ap (λ (r : TaskRow). r.status) same ∙ may.0.2) in
      cc (both)

  -- its value at the end is the one of its last entry
  last_value : (place : ℕ) (segment : IsSegmentOf journal t place) (value : ℤ) → segment.entry.end ≡ ends.Done value → value ≡ last.value
  last_value place segment value end =
      let may = runner p wf keeps lim journal legal t place segment in
      let row = may.0.0 in
      let frame : Frame = ready_frame (st place).tasks row.frame in
      let starts : StartsFrom p lim journal t place frame = record { segment = segment; row = row; there = may.0.1; frame_is = refl } in
      let stop = done_stop (left_by p (st place) row).stop segment.entry.end value (end_of p wf lim journal legal t place segment row may.0.1) end in
      let given = ends_give_values p wf keeps lim journal legal t place frame value starts stop in
      let same : given.row ≡ last = got_one (slice_get (state_after p lim journal).tasks t) given.there there in
      sym given.value_is ∙ ap (λ (r : TaskRow). r.value) same

  module _ (from count : ℕ) (still : StillEnabled from count) (segment : IsSegmentOf journal t (from + count)) (new : TaskRow) (now : IsRow (st (suc (from + count))) t new) where
    by_end : (end : End) → segment.entry.end ≡ end → StatusAfter Enabled end new.status → Finished from ⊎ StillEnabled from (suc count)
    by_end (ends.Done value) is status =
        let value_is = last_value (from + count) segment value is in
        inl (record {
          count = count;
          enabled = one_more from count still;
          by = record { segment = segment; end = is ∙ ap (λ (v : ℤ). ends.Done v) value_is };
          ended = (new, now, status);
        })
    by_end (ends.Fault kind place) is status = absurd (no_fault (suc (from + count)) (new, now, status))
    by_end ends.Admitted is status = inr (goes_on from count still (new, now, status))
    by_end (ends.Made child) is status = inr (goes_on from count still (new, now, status))
    by_end (ends.Waits on) is status = inr (goes_on from count still (new, now, status))
    by_end (ends.Joins on) is status = inr (goes_on from count still (new, now, status))

  by_segment : (from count : ℕ) → StillEnabled from count → IsSegmentOf journal t (from + count) → Finished from ⊎ StillEnabled from (suc count)
  by_segment from count still segment =
      let has = still.1 in
      let kept = (later_at p wf lim journal legal (from + count) (suc (from + count)) (omega arith)).kept t has.0 has.1 in
      let status = status_after p wf lim journal legal t (from + count) segment has.0 kept.now has.1 kept.there in
      by_end from count still segment kept.now kept.there segment.entry.end refl
      (subst (λ (s : TaskStatus). StatusAfter s segment.entry.end kept.now.status) has.2 status)

  search : (count from : ℕ) → HasStatus (st from) t Enabled → Finished from ⊎ StillEnabled from count
  search zero from has =
      let place : from ≡ from + 0 = omega arith in
      inr ((λ n least most. absurd (omega (arith, least, most))), subst (λ (n : ℕ). HasStatus (st n) t Enabled) place has)
  search (suc count) from has = elim (search count from has) [
    | inl found ↦ inl found
    | inr still ↦ elim (segment_or_not p wf lim journal legal t (from + count)) [
      | inl segment ↦ by_segment from count still segment
      | inr outside ↦
          inr (goes_on from count still
          (status_kept p wf lim journal legal t (from + count) (slice_get journal (from + count)) refl outside Enabled (λ e. cc (e)) still.1))
    ]
  ]

  pub finished_from : (from : ℕ) → HasStatus (st from) t Enabled → Finished from
  finished_from from has = elim (search (length journal) from has) [
    | inl found ↦ found
    | inr still ↦
        let all : take (from + length journal) journal ≡ journal = take_all (from + length journal) journal (omega arith) in
        let end = subst (λ (entries : List Entry). HasStatus (state_after p lim entries) t Enabled) all still.1 in
        let same : end.0 ≡ last = got_one (slice_get (state_after p lim journal).tasks t) end.1 there in
        let both : Enabled ≡ Done = sym end.2 ∙ (ap (λ (r : TaskRow). r.status) same ∙ done) in
        absurd (cc (both))
  ]
