-- What the bars of a legal journal show.
use Rattle.std.proofs.Common.{◌≡◌, ◌+◌, ◌++◌, ℕ, zero, suc, List, [], ◌∷◌, length, take, Option, None, Some, refl, sym, ap, ◌∙◌, subst, arith, append_assoc, length-append}
use Rattle.std.specs.Prelude.{slice_get}
use Rattle.std.proofs.lemmas.List.{append-nil}
use Rattle.seg_journal.specs.declared.journal.End.{End}
use Rattle.seg_journal.specs.declared.journal.Entry.{Entry}
use Rattle.seg_journal.specs.declared.moves.Kind.{Kind}
use Rattle.seg_journal.specs.declared.moves.Kind.TheVariants.{Admit, Run}
use Rattle.twe_base.specs.Limits.{Bounds}
use Rattle.twe_program.specs.Program.{Program}
use Rattle.machine_state.specs.declared.state.State.{State}
use Rattle.machine_state.specs.declared.state.TaskRow.{TaskRow}
use Rattle.machine_state.specs.Moves.{move_result, ran, result_by_kind}
use Rattle.machine_state.specs.Runs.{LegalFrom, is_done}
use Rattle.span_profile.specs.Strands.{Strand, made_task, strand_by_kind, strands_from}
use Rattle.twe_draw.specs.picture.Bars.{IsShown, Shows, bar_in, bars_from, concerns, giver_in, last_that, time_at}
use Rattle.twe_draw.specs.declared.picture.bars.EntryBar.{EntryBar}

-- the end of a legal move tells what its strand tells
by_end : {X : Type 0} (of : End → X) (p : Program) (lim : Bounds) (st : State) (t : ℕ) (row : Option TaskRow) (end : End) → slice_get st.tasks t ≡ row → (result_by_kind p lim st Run t).1 ≡ end
    → of end ≡ of (ran p lim st t row).1
by_end of p lim st t row end found is = sym (ap of (sym (ap (λ (r : Option TaskRow). (ran p lim st t r).1) found) ∙ is))

made_so : (p : Program) (lim : Bounds) (st : State) (kind : Kind) (t : ℕ) (row : Option TaskRow) (end : End) → slice_get st.tasks t ≡ row → (result_by_kind p lim st kind t).1 ≡ end
    → made_task end ≡ (strand_by_kind p st kind t row end).made
made_so p lim st Admit t row end found is = ap made_task (sym is)
made_so p lim st Run t None end found is = by_end made_task p lim st t None end found is
made_so p lim st Run t (Some row) end found is = refl

done_so : (p : Program) (lim : Bounds) (st : State) (kind : Kind) (t : ℕ) (row : Option TaskRow) (end : End) → slice_get st.tasks t ≡ row → (result_by_kind p lim st kind t).1 ≡ end
    → is_done end ≡ (strand_by_kind p st kind t row end).done
done_so p lim st Admit t row end found is = ap is_done (sym is)
done_so p lim st Run t None end found is = by_end is_done p lim st t None end found is
done_so p lim st Run t (Some row) end found is = refl

-- a list with one element more
one_longer : (before : List EntryBar) (bar : EntryBar) → length (before ++ bar ∷ []) ≡ suc (length before)
one_longer before bar = let long = length-append before (bar ∷ []) in omega (arith, long)

module _ (p : Program) (lim : Bounds) (starts ends : List ℕ) where
  pub shown : (st : State) (before : List EntryBar) (entries : List Entry) → LegalFrom p lim st entries
      → Shows (length before) (strands_from p lim st entries) (bars_from p lim starts ends st before entries)
  shown st before [] legal = tt
  shown st before (entry ∷ entries) legal =
      let next : State = (move_result p lim st entry.mv).0 in
      let bar = bar_in p starts ends st before entry in
      let row = slice_get st.tasks entry.mv.task in (
        record {
          number_is = refl;
          task = refl;
          taken = refl;
          made = made_so p lim st entry.mv.kind entry.mv.task row entry.end refl legal.1;
          done = done_so p lim st entry.mv.kind entry.mv.task row entry.end refl legal.1;
        },
        subst (λ (n : ℕ). Shows n (strands_from p lim next entries) (bars_from p lim starts ends next (before ++ bar ∷ []) entries)) (one_longer before bar)
            (shown next (before ++ bar ∷ []) entries legal.2),
      )

  -- the times and the links of a bar
  pub record IsPlacedAt (before : List EntryBar) (number : ℕ) (bar : EntryBar) : Type 0 where
    pub begins_is : bar.begins ≡ time_at starts number
    pub ends_is : bar.ends ≡ time_at ends number
    pub previous_is : bar.previous ≡ last_that (concerns bar.task) before
    pub giver_is : bar.giver ≡ giver_in before bar.taken

  pub placed : (st : State) (before : List EntryBar) (entries : List Entry) (k : ℕ) (bar : EntryBar) → slice_get (bars_from p lim starts ends st before entries) k ≡ Some bar
      → IsPlacedAt (before ++ take k (bars_from p lim starts ends st before entries)) (length before + k) bar
  placed st before [] k bar here = absurd (cc)
  placed st before (entry ∷ entries) zero bar here =
      let is : bar_in p starts ends st before entry ≡ bar = cc in
      let none : before ≡ before ++ [] = sym (append-nil before) in
      let number : length before ≡ length before + 0 = omega arith in
      subst (IsPlacedAt (before ++ []) (length before + 0)) is
      (subst (λ (n : ℕ). IsPlacedAt (before ++ []) n (bar_in p starts ends st before entry)) number
      (subst (λ (l : List EntryBar). IsPlacedAt l (length before) (bar_in p starts ends st before entry)) none
      (record { begins_is = refl; ends_is = refl; previous_is = refl; giver_is = refl })))
  placed st before (entry ∷ entries) (suc k) bar here =
      let next : State = (move_result p lim st entry.mv).0 in
      let first = bar_in p starts ends st before entry in
      let rest = bars_from p lim starts ends next (before ++ first ∷ []) entries in
      let long = one_longer before first in
      let number : length (before ++ first ∷ []) + k ≡ length before + suc k = omega (arith, long) in
      subst (λ (n : ℕ). IsPlacedAt (before ++ first ∷ take k rest) n bar) number
      (subst (λ (l : List EntryBar). IsPlacedAt l (length (before ++ first ∷ []) + k) bar) (append_assoc before (first ∷ []) (take k rest))
      (placed next (before ++ first ∷ []) entries k bar here))

-- there are as many of both
pub as_many : (number : ℕ) (strands : List Strand) (bars : List EntryBar) → Shows number strands bars → length strands ≡ length bars
as_many number [] [] shows = refl
as_many number [] (bar ∷ bars) shows = absurd shows
as_many number (strand ∷ strands) [] shows = absurd shows
as_many number (strand ∷ strands) (bar ∷ bars) shows = ap (λ (n : ℕ). suc n) (as_many (suc number) strands bars shows.1)

-- the bar of a number shows the strand of that number
pub shown_at : (number : ℕ) (strands : List Strand) (bars : List EntryBar) → Shows number strands bars → (k : ℕ) (bar : EntryBar) → slice_get bars k ≡ Some bar
    → (strand : Strand) × (slice_get strands k ≡ Some strand) × IsShown (number + k) strand bar
shown_at number [] [] shows k bar here = absurd (cc)
shown_at number [] (first ∷ bars) shows k bar here = absurd shows
shown_at number (strand ∷ strands) [] shows k bar here = absurd shows
shown_at number (strand ∷ strands) (first ∷ bars) shows zero bar here =
    let is : first ≡ bar = cc in
    let same : number ≡ number + 0 = omega arith in
    (strand, refl, subst (λ (n : ℕ). IsShown n strand bar) same (subst (IsShown number strand) is shows.0))
shown_at number (strand ∷ strands) (first ∷ bars) shows (suc k) bar here =
    let rest = shown_at (suc number) strands bars shows.1 k bar here in
    let same : suc number + k ≡ number + suc k = omega arith in
    (rest.0, rest.1, subst (λ (n : ℕ). IsShown n rest.0 bar) same rest.2)
