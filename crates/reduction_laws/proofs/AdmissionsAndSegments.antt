-- The admission of one task and the next segment of another change places.
use Rattle.std.proofs.Common.{◌≡◌, ◌≢◌, ◌++◌, ℕ, ℤ, false, List, length, Option, None, Some, inl, inr, refl, sym, ap, ◌∙◌, subst, arith}
use Rattle.std.specs.Prelude.{slice_get}
use Rattle.std.proofs.lemmas.Option.{slice_get_within}
use Rattle.twe_base.specs.Limits.{Bounds}
use Rattle.effect_sets.specs.declared.effects.Effect.{Effect}
use Rattle.effect_sets.specs.Interference.{SomeInterfere}
use Rattle.seg_journal.specs.declared.moves.Kind.TheVariants.{Admit, Run}
use Rattle.wait_graph.specs.Waiting.{WaitsOnUnlessDone, YieldsTo}
use Rattle.wait_graph.proofs.ChainLemmas.{Chain-stays}
use Rattle.wait_graph.proofs.WaitingLemmas.{YieldsTo-alone}
use Rattle.twe_program.specs.Program.{Program}
use Rattle.twe_program.specs.WellFormed.{IsWellFormed}
use Rattle.seg_meaning.specs.Access.{after}
use Rattle.seg_meaning.specs.Segment.{Stopped}
use Rattle.seg_meaning.proofs.Determined.{segment_agrees}
use Rattle.isolation_laws.specs.soundness.KeepsEffects.{KeepsEffects}
use Rattle.isolation_laws.proofs.effects.Interference.{some-more, some-mutual}
use Rattle.isolation_laws.proofs.journals.Journals.{reached_within}
use Rattle.isolation_laws.proofs.rows.LinksOfRows.{done_row}
use Rattle.machine_state.specs.declared.state.State.{State}
use Rattle.machine_state.specs.declared.state.TaskRow.{TaskRow}
use Rattle.machine_state.specs.declared.state.TaskStatus.TheVariants.{Done, Enabled, Made}
use Rattle.machine_state.specs.Changes.{next_segment}
use Rattle.machine_state.specs.Legal.{Interfere, MayAdmit, MayRun}
use Rattle.machine_state.specs.Moves.{ready_frame}
use Rattle.machine_state.specs.Rows.{HasStatus, IsRow}
use Rattle.machine_state.specs.Runs.{IsReached}
use Rattle.machine_state.proofs.links.ChainsStay.{chain_stays}
use Rattle.machine_state.proofs.lists.Places.{got_one}
use Rattle.machine_state.proofs.standing.ReachedStands.{reached_stands}
use Rattle.machine_state.proofs.tasks.LeftAlone.{moves_leave_alone}
use Rattle.determinism_laws.specs.Independence.{KeepsNextSegment}
use Rattle.determinism_laws.proofs.Exchanged.{Ready, after_run}
use Rattle.determinism_laws.proofs.KeptSegments.{keeps_next_segment}
use Rattle.determinism_laws.proofs.MovedRows.{RowsAfter, child_joined, made_after, marked, own_after, rows_after}
use Rattle.determinism_laws.proofs.NearFaults.{ends_in_fault, reached_more}
use Rattle.determinism_laws.proofs.SameMoves.{WasRow, its_own, was_made, was_row, was_there}
use Rattle.reduction_laws.proofs.Admissions.{admitted_asked, admitted_cells, admitted_count, admitted_fault, admitted_itself, admitted_other, admitted_prints, admitted_was, after_admission, interfere_rows, rootless, rows_interfere, waits_yields, yields_waits}
use Rattle.reduction_laws.proofs.EqualStates.{same_state}
use Rattle.reduction_laws.proofs.Faults.{segment_none}
use Rattle.reduction_laws.proofs.RowFacts.{CameFrom, came_from, from_make, from_old, marked_admitted, marked_status, own_effects, spawned_parent}

module _ (p : Program) (wf : IsWellFormed p) (keeps : KeepsEffects p) (lim : Bounds) (st : State) (reached : IsReached p lim st) (s t : ℕ) (differ : s ≢ t)
    (may_s : MayAdmit st s) (of_t : Ready p lim st t) where
  abbrev left : Stopped
  left = next_segment p st of_t.row

  abbrev new : State
  new = after_run p lim st t

  abbrev child : Option ℕ
  child = child_joined of_t.row

  enabled_t : of_t.row.status ≡ Enabled
  enabled_t = ap (λ (r : TaskRow). r.status) (got_one (slice_get st.tasks t) of_t.here of_t.may.0.1) ∙ of_t.may.0.2

  rows : RowsAfter lim st new t of_t.row left
  rows = rows_after p wf lim st reached t of_t.row of_t.here of_t.may of_t.fits

  reached_new : IsReached p lim new
  reached_new = reached_more p wf keeps lim st (record { task = t; kind = Run }) reached of_t.may

  -- the two do not interfere: t waits for nobody, and s has no spawn ancestors
  spares : ¬ Interfere st t s
  spares meets =
      let descends = YieldsTo-alone of_t.may.1 (may_s.1 t (λ e. differ (sym e)) of_t.may.0 meets) in
      differ (Chain-stays (rootless p wf lim st reached s may_s.0) descends)

  -- s is there after the segment
  abbrev row_s : TaskRow
  row_s = marked child s may_s.0.0

  here_s : IsRow new s row_s
  here_s = rows.others s may_s.0.0 differ may_s.0.1

  made_s : HasStatus new s Made
  made_s = (row_s, here_s, marked_status child s may_s.0.0 ∙ may_s.0.2)

  -- who yielded to s does so still
  yields_still : (u : ℕ) → YieldsTo st.links u s → YieldsTo new.links u s
  yields_still u yields = by_chain (chain_stays p lim wf st Run t u s of_t.may (reached_stands p lim st wf reached) (inl (yields_waits p wf lim st reached s may_s.0 u yields)))
    where
      by_chain : WaitsOnUnlessDone new.links u s → YieldsTo new.links u s
      by_chain (inl chain) = waits_yields new.links u s chain
      by_chain (inr done) =
          let has = done_row new (reached_stands p lim new wf reached_new).links s done in
          let both : Made ≡ Done = sym made_s.2 ∙ (ap (λ (r : TaskRow). r.status) (got_one (slice_get new.tasks s) made_s.1 has.1) ∙ has.2) in
          absurd (cc (both))

  effects_s : (r : TaskRow) → IsRow new s r → may_s.0.0.effects.effects ≡ r.effects.effects
  effects_s r at = by_origin (came_from lim st new t of_t.row left of_t.here enabled_t rows s r at)
    where
      by_origin : CameFrom lim st t left s r → may_s.0.0.effects.effects ≡ r.effects.effects
      by_origin (from_old before before_at kept) = ap (λ (x : TaskRow). x.effects.effects) (got_one (slice_get st.tasks s) may_s.0.1 before_at) ∙ kept.effects
      by_origin (from_make is made) = let within = slice_get_within st.tasks s may_s.0.0 may_s.0.1 in absurd (omega (arith, is, within))

  -- a task that it spawned lies within t
  spawned_spares : (r : TaskRow) → made_after lim t left.stop (length st.tasks) ≡ Some r → r.status ≡ Enabled → ¬ SomeInterfere r.effects.effects may_s.0.0.effects.effects
  spawned_spares r made enabled meets =
      let own = own_after left.stop (length st.tasks) of_t.row left.frame in
      let within = reached_within p wf keeps lim new reached_new (length st.tasks) t r own (rows.made r made) rows.own (spawned_parent lim t left.stop (length st.tasks) r made enabled) in
      let theirs = may_s.0.0.effects.effects in
      let more = some-mutual theirs own.effects.effects (some-more theirs r.effects.effects own.effects.effects within (some-mutual r.effects.effects theirs meets)) in
      spares (rows_interfere st t s of_t.row may_s.0.0 of_t.here may_s.0.1 own.effects.effects theirs
      (sym (ap (λ e. e.effects) (own_effects left.stop (length st.tasks) of_t.row left.frame))) refl more)

  pub still_admits : MayAdmit new s
  still_admits = (made_s, held_by_none)
    where
      held_by_none : (u : ℕ) → u ≢ s → HasStatus new u Enabled → Interfere new u s → YieldsTo new.links u s
      held_by_none u other enabled meets = by_origin (came_from lim st new t of_t.row left of_t.here enabled_t rows u enabled.0 enabled.1)
        where
          met : SomeInterfere enabled.0.effects.effects row_s.effects.effects
          met = interfere_rows new u s enabled.0 row_s enabled.1 here_s meets

          by_origin : CameFrom lim st t left u enabled.0 → YieldsTo new.links u s
          by_origin (from_old before before_at kept) =
              yields_still u (may_s.1 u other (before, before_at, kept.enabled enabled.2)
              (rows_interfere st u s before may_s.0.0 before_at may_s.0.1 enabled.0.effects.effects row_s.effects.effects kept.effects (effects_s row_s here_s) met))
          by_origin (from_make is made) =
              absurd (spawned_spares enabled.0 made enabled.2 (subst (λ (es : List Effect). SomeInterfere enabled.0.effects.effects es) (sym (effects_s row_s here_s)) met))

  -- The other order.

  abbrev first : State
  first = after_admission st s

  reached_first : IsReached p lim first
  reached_first = reached_more p wf keeps lim st (record { task = s; kind = Admit }) reached may_s

  pub kept_first : KeepsNextSegment p st first t of_t.row
  kept_first = keeps_next_segment p wf keeps lim st reached t of_t.row (record { task = s; kind = Admit }) differ of_t.here of_t.may may_s

  abbrev left_first : Stopped
  left_first = record left { cells = after first.cells left.accesses }

  asked_first : first.asked ≡ st.asked
  asked_first = admitted_asked st s may_s.0.0 may_s.0.1

  pub fits_first : ends_in_fault lim first.asked (next_segment p first of_t.row).stop ≡ false
  fits_first = ap (λ (x : Stopped). ends_in_fault lim first.asked x.stop) kept_first.same ∙ (ap (λ (n : ℕ). ends_in_fault lim n left.stop) asked_first ∙ of_t.fits)

  abbrev last : State
  last = after_run p lim first t

  rows_first : RowsAfter lim first last t of_t.row left_first
  rows_first = subst (RowsAfter lim first last t of_t.row) kept_first.same (rows_after p wf lim first reached_first t of_t.row kept_first.there kept_first.may fits_first)

  abbrev other : State
  other = after_admission new s

  count_first : length first.tasks ≡ length st.tasks
  count_first = admitted_count st s may_s.0.0 may_s.0.1

  row_there : (u : ℕ) (r : TaskRow) → WasRow lim first t of_t.row left_first u r → IsRow other u r
  row_there u r (its_own is row_is) =
      let own = own_after left.stop (length st.tasks) of_t.row left.frame in
      let at = admitted_other new s row_s here_s t own (λ e. differ (sym e)) rows.own in
      subst (λ (n : ℕ). IsRow other n r) (sym is) (at ∙ ap Some (ap (λ (n : ℕ). own_after left.stop n of_t.row left.frame) (sym count_first) ∙ sym row_is))
  row_there u r (was_there old differ_t old_at is) = elim (admitted_was st s may_s.0.0 may_s.0.1 u old old_at) [
    | inl own ↦
        let at = admitted_itself new s row_s here_s in
        let marks = marked_admitted child s may_s.0.0 ∙ (ap (marked child s) own.1 ∙ ap (λ (n : ℕ). marked child n old) (sym own.0)) in
        subst (λ (n : ℕ). IsRow other n r) (sym own.0) (at ∙ ap Some (marks ∙ sym is))
    | inr before ↦ admitted_other new s row_s here_s u r before.0 (rows.others u old differ_t before.1 ∙ ap Some (sym is))
  ]
  row_there u r (was_made is asked made) =
      let within = slice_get_within st.tasks s may_s.0.0 may_s.0.1 in
      let number : u ≡ length st.tasks = is ∙ count_first in
      let at = rows.made r (ap (made_after lim t left.stop) (sym count_first) ∙ made) in
      let there = admitted_other new s row_s here_s (length st.tasks) r (λ e. omega (arith, e, within)) at in
      subst (λ (n : ℕ). IsRow other n r) (sym number) there

  printed : (x : State) → IsReached p lim x → IsRow x t of_t.row → MayRun x t → (after_run p lim x t).prints ≡ x.prints ++ (next_segment p x of_t.row).frame.prints
  printed x reached_x at may = ((moves_leave_alone p lim x (record { task = t; kind = Run }) wf reached_x may).results of_t.row at).prints

  pub orders_agree : st.first_fault ≡ None → last ≡ other
  orders_agree faultless =
      same_state p wf lim last other (reached_more p wf keeps lim first (record { task = t; kind = Run }) reached_first kept_first.may)
      (reached_more p wf keeps lim new (record { task = s; kind = Admit }) reached_new still_admits)
      (record {
        rows = λ u r at. row_there u r (was_row lim first last t of_t.row left_first rows_first u r at);
        count = let a = rows_first.count in let b = rows.count in let c = admitted_count new s row_s here_s in omega (arith, a, b, c, count_first);
        cells =
            rows_first.cells
            ∙ (ap (λ (l : List ℤ). after l left.accesses) (admitted_cells st s may_s.0.0 may_s.0.1)
            ∙ (sym (segment_agrees p (ready_frame st.tasks of_t.row.frame) st.cells).cells_after ∙ (sym rows.cells ∙ sym (admitted_cells new s row_s here_s))));
        prints =
            printed first reached_first kept_first.there kept_first.may
            ∙ ((λ i. admitted_prints st s may_s.0.0 may_s.0.1 i ++ (kept_first.same i).frame.prints)
            ∙ (sym (printed st reached of_t.here of_t.may) ∙ sym (admitted_prints new s row_s here_s)));
        asked = let a = rows_first.asked in let b = rows.asked in let c = admitted_asked new s row_s here_s in omega (arith, a, b, c, asked_first);
        first_fault =
            segment_none p wf keeps lim first t of_t.row reached_first kept_first.there kept_first.may (admitted_fault st s may_s.0.0 may_s.0.1 ∙ faultless) fits_first
            ∙ sym (admitted_fault new s row_s here_s ∙ segment_none p wf keeps lim st t of_t.row reached of_t.here of_t.may faultless of_t.fits);
      })
