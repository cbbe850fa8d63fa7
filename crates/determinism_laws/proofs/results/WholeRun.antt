-- The cells and the printed numbers of a run are those of its segments.
use Rattle.std.proofs.Common.{◌≡◌, ◌≤◌, ◌<◌, ◌+◌, ◌++◌, ℕ, zero, suc, ℤ, List, [], ◌∷◌, Option, None, Some, inl, inr, refl, sym, ap, ◌∙◌, subst, arith}
use Rattle.std.specs.Prelude.{slice_get}
use Rattle.std.proofs.lemmas.List.{append_assoc, append-nil}
use Rattle.seg_journal.specs.declared.journal.Entry.{Entry}
use Rattle.seg_journal.specs.declared.moves.Kind.{Kind}
use Rattle.seg_journal.specs.declared.moves.Kind.TheVariants.{Admit, Run}
use Rattle.twe_base.specs.Limits.{Bounds}
use Rattle.twe_program.specs.Program.{Program}
use Rattle.twe_program.specs.WellFormed.{IsWellFormed}
use Rattle.seg_meaning.specs.Access.{after, printed}
use Rattle.seg_meaning.proofs.Determined.{segment_agrees}
use Rattle.machine_state.specs.declared.state.State.{State}
use Rattle.machine_state.specs.declared.state.TaskRow.{TaskRow}
use Rattle.machine_state.specs.Changes.{ResultsAfter, next_segment}
use Rattle.machine_state.specs.Moves.{awaited_value, move_result, ready_frame}
use Rattle.machine_state.specs.Rows.{IsRow, row_awaited}
use Rattle.machine_state.specs.Runs.{Legal, state_after}
use Rattle.machine_state.proofs.tasks.LeftAlone.{moves_leave_alone}
use Rattle.determinism_laws.specs.Orders.{SegmentAccesses, after_all}
use Rattle.determinism_laws.specs.Segments.{IsSegmentOf, state_before}
use Rattle.determinism_laws.specs.Sequential.{AreSegmentsBelow}
use Rattle.determinism_laws.specs.Ranks.{IsBelow}
use Rattle.determinism_laws.proofs.JournalPlaces.{reached_at, stands_at, taken_at}
use Rattle.determinism_laws.proofs.OwnCells.{after_all_push, take_past}
use Rattle.determinism_laws.specs.theorem.Steps.{printed_by}
use Rattle.determinism_laws.proofs.theorem.Played.{given_prints}
use Rattle.determinism_laws.proofs.theorem.Printing.{step_prints_its}

-- one segment more
printed_push : (segments : List SegmentAccesses) (s : SegmentAccesses) → printed_by (segments ++ s ∷ []) ≡ printed_by segments ++ printed s.accesses
printed_push [] s = append-nil (printed s.accesses)
printed_push (first ∷ segments) s =
    ap (λ (l : List ℤ). printed first.accesses ++ l) (printed_push segments s) ∙ sym (append_assoc (printed first.accesses) (printed_by segments) (printed s.accesses))

-- How the cells and the printed numbers come from those of an earlier state: by these segments.
pub record ChangesBy (before now : State) (segments : List SegmentAccesses) : Type 0 where
  pub cells : now.cells ≡ after_all before.cells segments
  pub prints : now.prints ≡ before.prints ++ printed_by segments

module _ (p : Program) (wf : IsWellFormed p) (lim : Bounds) (journal : List Entry) (legal : Legal p lim journal) where
  abbrev st : ℕ → State
  st n = state_before p lim journal n

  unchanged : (s : State) → ChangesBy s s []
  unchanged s = record { cells = refl; prints = sym (append-nil s.prints) }

  same_state : (before now other : State) (segments : List SegmentAccesses) → now ≡ other → ChangesBy before now segments → ChangesBy before other segments
  same_state before now other segments same changes = subst (λ (s : State). ChangesBy before s segments) same changes

  segment_prints : (n t : ℕ) (row : TaskRow) → IsRow (st n) t row → (next_segment p (st n) row).frame.prints ≡ printed (next_segment p (st n) row).accesses
  segment_prints n t row there =
      let frame = ready_frame (st n).tasks row.frame in
      let bare : frame.prints ≡ [] =
      given_prints row.frame.next row.frame (awaited_value (st n).tasks (row_awaited row.frame.next)) ∙ ((stands_at p wf lim journal legal n).rows t row there).prints in
      step_prints_its p (record { frame = frame; cells = (st n).cells }) bare

  -- a segment
  by_segment : (n t : ℕ) (row : TaskRow) → IsSegmentOf journal t n → IsRow (st n) t row → (s : SegmentAccesses) → s.accesses ≡ (next_segment p (st n) row).accesses
      → ((st (suc n)).cells ≡ after (st n).cells s.accesses) × ((st (suc n)).prints ≡ (st n).prints ++ printed s.accesses)
  by_segment n t row segment there s accesses =
      let taken = taken_at p wf lim journal legal n segment.entry segment.there in
      let alone = moves_leave_alone p lim (st n) segment.entry.mv wf (reached_at p wf lim journal legal n) taken.may in
      let results : ResultsAfter p (st n) (move_result p lim (st n) segment.entry.mv).0 Run segment.entry.mv.task =
      subst (λ (kind : Kind). ResultsAfter p (st n) (move_result p lim (st n) segment.entry.mv).0 kind segment.entry.mv.task) segment.runs alone.results in
      let changes = results row (subst (λ (u : ℕ). IsRow (st n) u row) (sym segment.task) there) in
      let left = next_segment p (st n) row in (
        ap (λ (x : State). x.cells) taken.leads
            ∙ (changes.cells ∙ ((segment_agrees p (ready_frame (st n).tasks row.frame) (st n).cells).cells_after ∙ ap (after (st n).cells) (sym accesses))),
        ap (λ (x : State). x.prints) taken.leads
            ∙ (changes.prints ∙ ap (λ (l : List ℤ). (st n).prints ++ l) (segment_prints n t row there ∙ ap printed (sym accesses))),
      )

  -- any other entry
  by_kind : (n : ℕ) (entry : Entry) (kind : Kind) → slice_get journal n ≡ Some entry → entry.mv.kind ≡ kind → ((t : ℕ) → ¬ IsSegmentOf journal t n)
      → ((st (suc n)).cells ≡ (st n).cells) × ((st (suc n)).prints ≡ (st n).prints)
  by_kind n entry Run there is silent = absurd (silent entry.mv.task (record { entry = entry; there = there; runs = is; task = refl }))
  by_kind n entry Admit there is silent =
      let taken = taken_at p wf lim journal legal n entry there in
      let alone = moves_leave_alone p lim (st n) entry.mv wf (reached_at p wf lim journal legal n) taken.may in
      let results : ResultsAfter p (st n) (move_result p lim (st n) entry.mv).0 Admit entry.mv.task =
      subst (λ (k : Kind). ResultsAfter p (st n) (move_result p lim (st n) entry.mv).0 k entry.mv.task) is alone.results in
      (ap (λ (x : State). x.cells) taken.leads ∙ results.cells, ap (λ (x : State). x.prints) taken.leads ∙ results.prints)

  by_entry : (n : ℕ) (found : Option Entry) → slice_get journal n ≡ found → ((t : ℕ) → ¬ IsSegmentOf journal t n)
      → ((st (suc n)).cells ≡ (st n).cells) × ((st (suc n)).prints ≡ (st n).prints)
  by_entry n None gone silent =
      let same = take_past journal n gone in
      (ap (λ (entries : List Entry). (state_after p lim entries).cells) same, ap (λ (entries : List Entry). (state_after p lim entries).prints) same)
  by_entry n (Some entry) there silent = by_kind n entry entry.mv.kind there refl silent

  -- Some entries.

  one_more : (from count : ℕ) (segments : List SegmentAccesses) (s : SegmentAccesses) → ChangesBy (st from) (st (from + count)) segments → (t : ℕ) (row : TaskRow)
      → IsSegmentOf journal t (from + count) → IsRow (st (from + count)) t row → s.accesses ≡ (next_segment p (st (from + count)) row).accesses
      → ChangesBy (st from) (st (suc (from + count))) (segments ++ s ∷ [])
  one_more from count segments s before t row segment there accesses =
      let step = by_segment (from + count) t row segment there s accesses in
      record {
        cells = step.0 ∙ (ap (λ (l : List ℤ). after l s.accesses) before.cells ∙ sym (after_all_push (st from).cells segments s));
        prints = step.1 ∙ (ap (λ (l : List ℤ). l ++ printed s.accesses) before.prints
            ∙ (append_assoc (st from).prints (printed_by segments) (printed s.accesses) ∙ ap (λ (l : List ℤ). (st from).prints ++ l) (sym (printed_push segments s))));
      }

  none_more : (from count : ℕ) (segments : List SegmentAccesses) → ChangesBy (st from) (st (from + count)) segments → ((t : ℕ) → ¬ IsSegmentOf journal t (from + count))
      → ChangesBy (st from) (st (suc (from + count))) segments
  none_more from count segments before silent =
      let step = by_entry (from + count) (slice_get journal (from + count)) refl silent in
      record { cells = step.0 ∙ before.cells; prints = step.1 ∙ before.prints }

  -- without segments nothing changes
  pub silent_entries : (from count : ℕ) → ((n t : ℕ) → from ≤ n → n < from + count → ¬ IsSegmentOf journal t n) → ChangesBy (st from) (st (from + count)) []
  silent_entries from zero silent =
      let place : from ≡ from + 0 = omega arith in
      same_state (st from) (st from) (st (from + 0)) [] (ap (λ (n : ℕ). st n) place) (unchanged (st from))
  silent_entries from (suc count) silent =
      let place : suc (from + count) ≡ from + suc count = omega arith in
      let before = silent_entries from count (λ n t least most. silent n t least (omega (arith, most))) in
      same_state (st from) (st (suc (from + count))) (st (from + suc count)) [] (ap (λ (n : ℕ). st n) place)
      (none_more from count [] before (λ t. silent (from + count) t (omega arith) (omega arith)))

  -- if all segments among them are below t, these are the segments
  pub listed_entries : (t from count : ℕ) → ((n u : ℕ) → IsSegmentOf journal u n → IsBelow p lim journal t n) → (segments : List SegmentAccesses)
      → AreSegmentsBelow p lim journal t from count segments → ChangesBy (st from) (st (from + count)) segments
  listed_entries t from zero all segments listed =
      let place : from ≡ from + 0 = omega arith in
      subst (ChangesBy (st from) (st (from + 0))) (sym listed) (same_state (st from) (st from) (st (from + 0)) [] (ap (λ (n : ℕ). st n) place) (unchanged (st from)))
  listed_entries t from (suc count) all segments (inl last) =
      let place : suc (from + count) ≡ from + suc count = omega arith in
      let before = listed_entries t from count all last.0 last.2 in
      let at = last.4 in
      subst (ChangesBy (st from) (st (from + suc count))) (sym last.5)
      (same_state (st from) (st (suc (from + count))) (st (from + suc count)) (last.0 ++ last.1 ∷ []) (ap (λ (n : ℕ). st n) place)
      (one_more from count last.0 last.1 before at.task at.row at.segment at.there at.accesses))
  listed_entries t from (suc count) all segments (inr outside) =
      let place : suc (from + count) ≡ from + suc count = omega arith in
      let before = listed_entries t from count all segments outside.1 in
      same_state (st from) (st (suc (from + count))) (st (from + suc count)) segments (ap (λ (n : ℕ). st n) place)
      (none_more from count segments before (λ u segment. outside.0 (all (from + count) u segment)))
