-- A task keeps its row from one of its segments to the next: other entries change only the mark that it was joined, and it
-- is not joined before it is done.
use Rattle.std.proofs.Common.{◌≡◌, ◌≢◌, ◌≤◌, ◌+◌, ◌-◌, ℕ, zero, suc, List, Option, None, Some, inl, inr, refl, sym, ap, ◌∙◌, subst, arith}
use Rattle.std.specs.Prelude.{slice_get}
use Rattle.seg_journal.specs.declared.journal.Entry.{Entry}
use Rattle.seg_journal.specs.declared.moves.Kind.{Kind}
use Rattle.seg_journal.specs.declared.moves.Kind.TheVariants.{Admit, Run}
use Rattle.twe_base.specs.Limits.{Bounds}
use Rattle.twe_program.specs.Program.{Program}
use Rattle.twe_program.specs.WellFormed.{IsWellFormed}
use Rattle.isolation_laws.specs.soundness.KeepsEffects.{KeepsEffects}
use Rattle.machine_state.specs.declared.state.State.{State}
use Rattle.machine_state.specs.declared.state.TaskRow.{TaskRow}
use Rattle.machine_state.specs.declared.state.TaskStatus.TheVariants.{Done, Enabled, Made}
use Rattle.machine_state.specs.Legal.{MayTake}
use Rattle.machine_state.specs.Moves.{joined_row}
use Rattle.machine_state.specs.Rows.{HasStatus, IsRow}
use Rattle.machine_state.specs.Runs.{Legal, state_after}
use Rattle.machine_state.proofs.tasks.OtherRows.{row_after}
use Rattle.machine_state.proofs.lists.Places.{got_one}
use Rattle.determinism_laws.specs.Execution.{IsNextSegment, RowsStayBetweenSegments}
use Rattle.determinism_laws.specs.Segments.{IsSegmentOf, state_before}
use Rattle.determinism_laws.proofs.JournalPlaces.{done_at, stands_at, taken_at}
use Rattle.determinism_laws.proofs.OwnCells.{take_past}
use Rattle.determinism_laws.proofs.Trees.{runner}

module _ (p : Program) (wf : IsWellFormed p) (keeps : KeepsEffects p) (lim : Bounds) (journal : List Entry) (legal : Legal p lim journal)
    (u from place : ℕ) (next : IsNextSegment journal u from place) (row : TaskRow) (admitted : row.status ≢ Made) where
  abbrev st : ℕ → State
  st n = state_before p lim journal n

  -- before its next segment the task is not done
  not_done : (n : ℕ) → n ≤ place → ¬ HasStatus (st n) u Done
  not_done n le done =
      let later = done_at p wf lim journal legal n place u le done in
      let may = runner p wf keeps lim journal legal u place next.segment in
      let same : later.0 ≡ may.0.0 = got_one (slice_get (st place).tasks u) later.1 may.0.1 in
      let both : Done ≡ Enabled = sym later.2 ∙ (ap (λ (r : TaskRow). r.status) same ∙ may.0.2) in
      cc (both)

  -- no other entry is one of u
  not_own : (n : ℕ) (entry : Entry) (kind : Kind) → slice_get journal n ≡ Some entry → ¬ IsSegmentOf journal u n → IsRow (st n) u row
      → entry.mv.kind ≡ kind → MayTake (st n) kind entry.mv.task → u ≢ entry.mv.task
  not_own n entry Run there outside here is may own = outside (record { entry = entry; there = there; runs = is; task = sym own })
  not_own n entry Admit there outside here is may own =
      let same : row ≡ may.0.0 = got_one (slice_get (st n).tasks entry.mv.task) (subst (λ (t : ℕ). IsRow (st n) t row) own here) may.0.1 in
      admitted (ap (λ (r : TaskRow). r.status) same ∙ may.0.2)

  over_entry : (n : ℕ) (found : Option Entry) → slice_get journal n ≡ found → suc n ≤ place → ¬ IsSegmentOf journal u n → IsRow (st n) u row → IsRow (st (suc n)) u row
  over_entry n None gone le outside here = subst (λ (entries : List Entry). IsRow (state_after p lim entries) u row) (sym (take_past journal n gone)) here
  over_entry n (Some entry) there le outside here =
      let taken = taken_at p wf lim journal legal n entry there in
      let differ = not_own n entry entry.mv.kind there outside here refl taken.may in
      elim (row_after p lim (st n) entry.mv.task u differ row here entry.mv.kind) [
        | inl stays ↦ subst (λ (s : State). IsRow s u row) (sym taken.leads) stays.1
        | inr marked ↦
            let there_now = subst (λ (s : State). IsRow s u (joined_row row)) (sym taken.leads) marked.1 in
            let done = ((stands_at p wf lim journal legal (suc n)).rows u (joined_row row) there_now).joined refl in
            absurd (not_done (suc n) le (joined_row row, there_now, done))
      ]

  over_entries : (count : ℕ) → from + count ≤ place → IsRow (st from) u row → IsRow (st (from + count)) u row
  over_entries zero le here = let same : from ≡ from + 0 = omega arith in subst (λ (n : ℕ). IsRow (st n) u row) same here
  over_entries (suc count) le here =
      let before = over_entries count (omega (arith, le)) here in
      let outside = next.first (from + count) (omega arith) (omega (arith, le)) in
      let same : suc (from + count) ≡ from + suc count = omega arith in
      subst (λ (n : ℕ). IsRow (st n) u row) same (over_entry (from + count) (slice_get journal (from + count)) refl (omega (arith, le)) outside before)

  row_stays : IsRow (st from) u row → IsRow (st place) u row
  row_stays here =
      let least = next.least in
      let same : from + (place - from) ≡ place = omega arith in
      subst (λ (n : ℕ). IsRow (st n) u row) same (over_entries (place - from) (omega (arith, same)) here)

pub rows_stay : (p : Program) → IsWellFormed p → KeepsEffects p → (lim : Bounds) (journal : List Entry) → Legal p lim journal → RowsStayBetweenSegments p lim journal
rows_stay p wf keeps lim journal legal u from place row next admitted here = row_stays p wf keeps lim journal legal u from place next row admitted here
