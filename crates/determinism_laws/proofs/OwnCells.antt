-- While a deterministic task is enabled, the cells under its effects change by the segments below it alone.
use Rattle.std.proofs.Common.{◌≡◌, ◌+◌, ℕ, zero, suc, ℤ, pos, true, false, List, [], ◌∷◌, ◌++◌, take, Option, None, Some, inl, inr, refl, sym, ap, ◌∙◌, subst, arith, eqb-true}
use Rattle.std.specs.Prelude.{slice_get}
use Rattle.std.specs.List.{list_any}
use Rattle.std.proofs.lemmas.Bool.{cases_Bool}
use Rattle.effect_sets.specs.Access.{PathAccess as PathAccess, AccessInterferesWithSome}
use Rattle.effect_check.proofs.Members.{in-contains, list_any-in}
use Rattle.seg_journal.specs.declared.journal.Entry.{Entry}
use Rattle.seg_journal.specs.declared.moves.Kind.{Kind}
use Rattle.seg_journal.specs.declared.moves.Kind.TheVariants.{Admit, Run}
use Rattle.twe_base.specs.Limits.{Bounds}
use Rattle.twe_program.specs.Program.{Program}
use Rattle.twe_program.specs.WellFormed.{IsWellFormed}
use Rattle.seg_meaning.specs.Access.{Access, Prints, Reads, Writes, after}
use Rattle.seg_meaning.proofs.Determined.{segment_agrees}
use Rattle.isolation_laws.specs.soundness.DeclaredNow.{access_of}
use Rattle.isolation_laws.specs.soundness.KeepsEffects.{KeepsEffects}
use Rattle.machine_state.specs.declared.state.State.{State}
use Rattle.machine_state.specs.declared.state.TaskRow.{TaskRow}
use Rattle.machine_state.specs.Changes.{ResultsAfter, next_segment}
use Rattle.machine_state.specs.Moves.{move_result, ready_frame}
use Rattle.machine_state.specs.Rows.{IsRow}
use Rattle.machine_state.specs.Runs.{Legal, state_after}
use Rattle.machine_state.proofs.tasks.LeftAlone.{moves_leave_alone}
use Rattle.determinism_laws.specs.Deterministic.{IsDeterministic}
use Rattle.determinism_laws.specs.Orders.{SegmentAccesses, after_all, is_write_of}
use Rattle.determinism_laws.specs.Ranks.{IsBelow}
use Rattle.determinism_laws.specs.Segments.{IsSegmentOf, SegmentMakes, state_before}
use Rattle.determinism_laws.specs.Sequential.{AreSegmentsBelow, IsEnabledThroughout, IsUnder}
use Rattle.determinism_laws.proofs.JournalPlaces.{reached_at, taken_at}
use Rattle.determinism_laws.proofs.LeftAlone.{left_alone}
use Rattle.determinism_laws.proofs.SameValues.{after_alike, unwritten}
use Rattle.determinism_laws.proofs.Trees.{runner}

-- past the end of a journal nothing changes
pub take_past : {X : Type 0} (xs : List X) (n : ℕ) → slice_get xs n ≡ None → take (suc n) xs ≡ take n xs
take_past [] zero none = refl
take_past [] (suc n) none = refl
take_past (x ∷ xs) zero none = absurd (cc (none))
take_past (x ∷ xs) (suc n) none = ap (λ (ys : List _). x ∷ ys) (take_past xs n none)

pub after_all_push : (cells : List ℤ) (segments : List SegmentAccesses) (s : SegmentAccesses) → after_all cells (segments ++ s ∷ []) ≡ after (after_all cells segments) s.accesses
after_all_push cells [] s = refl
after_all_push cells (first ∷ segments) s = after_all_push (after cells first.accesses) segments s

-- a write of a cell is an access of the cell's path, which writes
write_path : (p : Program) (cell : ℕ) (x : Access) → is_write_of cell x ≡ true → access_of p x ≡ access_of p (Writes cell (pos 0))
write_path p cell (Reads other value) is = absurd (cc (is))
write_path p cell (Prints value) is = absurd (cc (is))
write_path p cell (Writes other value) is = ap (λ (n : ℕ). access_of p (Writes n (pos 0))) (eqb-true other cell is)

module _ (p : Program) (wf : IsWellFormed p) (keeps : KeepsEffects p) (lim : Bounds) (journal : List Entry) (legal : Legal p lim journal) where
  abbrev st : ℕ → State
  st n = state_before p lim journal n

  -- the cells after a segment
  segment_cells : (s n : ℕ) (row : TaskRow) → IsSegmentOf journal s n → IsRow (st n) s row → (st (suc n)).cells ≡ after (st n).cells (next_segment p (st n) row).accesses
  segment_cells s n row segment there =
      let taken = taken_at p wf lim journal legal n segment.entry segment.there in
      let alone = moves_leave_alone p lim (st n) segment.entry.mv wf (reached_at p wf lim journal legal n) taken.may in
      let results : ResultsAfter p (st n) (move_result p lim (st n) segment.entry.mv).0 Run segment.entry.mv.task =
      subst (λ (kind : Kind). ResultsAfter p (st n) (move_result p lim (st n) segment.entry.mv).0 kind segment.entry.mv.task) segment.runs alone.results in
      let changes = results row (subst (λ (u : ℕ). IsRow (st n) u row) (sym segment.task) there) in
      ap (λ (x : State). x.cells) taken.leads ∙ (changes.cells ∙ (segment_agrees p (ready_frame (st n).tasks row.frame) (st n).cells).cells_after)

  -- an entry that is no segment changes no cell
  quiet_cells : (n : ℕ) (kind : Kind) (entry : Entry) → slice_get journal n ≡ Some entry → entry.mv.kind ≡ kind → kind ≡ Admit → (st (suc n)).cells ≡ (st n).cells
  quiet_cells n kind entry there is admits =
      let taken = taken_at p wf lim journal legal n entry there in
      let alone = moves_leave_alone p lim (st n) entry.mv wf (reached_at p wf lim journal legal n) taken.may in
      let results : ResultsAfter p (st n) (move_result p lim (st n) entry.mv).0 Admit entry.mv.task =
      subst (λ (k : Kind). ResultsAfter p (st n) (move_result p lim (st n) entry.mv).0 k entry.mv.task) (is ∙ admits) alone.results in
      ap (λ (x : State). x.cells) taken.leads ∙ results.cells

  module _ (t : ℕ) (row : TaskRow) (final : IsRow (state_after p lim journal) t row) (flag : IsDeterministic p row) (cell : ℕ) (under : IsUnder p row cell) where
    -- a segment that is not below t does not write the cell
    unwritten_outside : (n s : ℕ) (own : TaskRow) → IsSegmentOf journal s n → IsRow (st n) s own → ¬ IsBelow p lim journal t n → IsEnabledThroughout p lim journal t n 1
        → list_any (is_write_of cell) (next_segment p (st n) own).accesses ≡ false
    unwritten_outside n s own segment there outside enabled =
        elim (cases_Bool (list_any (is_write_of cell) (next_segment p (st n) own).accesses)) [
          | inl some ↦
              let x = list_any-in (is_write_of cell) (next_segment p (st n) own).accesses some in
              let makes : SegmentMakes p lim journal s n x.0 = record { segment = segment; row = own; there = there; makes = in-contains _ x.0 x.1 } in
              absurd (left_alone p wf keeps lim journal legal t row final flag n s (enabled n (omega arith) (omega arith)) outside x.0 makes
              (subst (λ (a : PathAccess). AccessInterferesWithSome a row.effects.effects) (sym (write_path p cell x.0 x.2)) under))
          | inr not_any ↦ not_any
        ]

    by_kind : (n : ℕ) (entry : Entry) (kind : Kind) → slice_get journal n ≡ Some entry → entry.mv.kind ≡ kind → ¬ IsBelow p lim journal t n → IsEnabledThroughout p lim journal t n 1
        → slice_get (st (suc n)).cells cell ≡ slice_get (st n).cells cell
    by_kind n entry Admit there is outside enabled = ap (λ (cells : List ℤ). slice_get cells cell) (quiet_cells n Admit entry there is refl)
    by_kind n entry Run there is outside enabled =
        let segment : IsSegmentOf journal entry.mv.task n = record { entry = entry; there = there; runs = is; task = refl } in
        let may = runner p wf keeps lim journal legal entry.mv.task n segment in
        ap (λ (cells : List ℤ). slice_get cells cell) (segment_cells entry.mv.task n may.0.0 segment may.0.1)
        ∙ unwritten (next_segment p (st n) may.0.0).accesses (st n).cells cell (unwritten_outside n entry.mv.task may.0.0 segment may.0.1 outside enabled)

    by_entry : (n : ℕ) (found : Option Entry) → slice_get journal n ≡ found → ¬ IsBelow p lim journal t n → IsEnabledThroughout p lim journal t n 1
        → slice_get (st (suc n)).cells cell ≡ slice_get (st n).cells cell
    by_entry n None none outside enabled = ap (λ (entries : List Entry). slice_get (state_after p lim entries).cells cell) (take_past journal n none)
    by_entry n (Some entry) there outside enabled = by_kind n entry entry.mv.kind there refl outside enabled

    -- the cell changes by the segments below t alone
    pub own_cells : (from count : ℕ) (segments : List SegmentAccesses) → IsEnabledThroughout p lim journal t from count → AreSegmentsBelow p lim journal t from count segments
        → slice_get (st (from + count)).cells cell ≡ slice_get (after_all (st from).cells segments) cell
    own_cells from zero segments enabled listed =
        let place : from + 0 ≡ from = omega arith in
        ap (λ (n : ℕ). slice_get (st n).cells cell) place ∙ ap (λ (xs : List SegmentAccesses). slice_get (after_all (st from).cells xs) cell) (sym listed)
    own_cells from (suc count) segments enabled (inl below) =
        let place : from + suc count ≡ suc (from + count) = omega arith in
        let before = own_cells from count below.0 (λ n least most. enabled n least (omega (arith, most))) below.2 in
        let at = below.4 in
        let cells = segment_cells at.task (from + count) at.row at.segment at.there ∙ ap (after (st (from + count)).cells) (sym at.accesses) in
        ap (λ (n : ℕ). slice_get (st n).cells cell) place ∙ (ap (λ (xs : List ℤ). slice_get xs cell) cells
        ∙ (after_alike below.1.accesses (st (from + count)).cells (after_all (st from).cells below.0) cell before
        ∙ (ap (λ (xs : List ℤ). slice_get xs cell) (sym (after_all_push (st from).cells below.0 below.1)) ∙ ap (λ (xs : List SegmentAccesses). slice_get (after_all (st from).cells xs) cell) (sym below.5))))
    own_cells from (suc count) segments enabled (inr outside) =
        let place : from + suc count ≡ suc (from + count) = omega arith in
        let before = own_cells from count segments (λ n least most. enabled n least (omega (arith, most))) outside.1 in
        ap (λ (n : ℕ). slice_get (st n).cells cell) place
        ∙ (by_entry (from + count) (slice_get journal (from + count)) refl outside.0 (λ n least most. enabled n (omega (arith, least)) (omega (arith, most))) ∙ before)
