-- The invariant holds in each state that a legal journal of an accepted program reaches, and so after each beginning of
-- such a journal.
use Rattle.std.proofs.Common.{◌≡◌, ℕ, zero, suc, List, [], ◌∷◌, take, Option, None, Some, refl, sym, ap, ◌∙◌, subst}
use Rattle.std.specs.Prelude.{slice_get}
use Rattle.seg_journal.specs.declared.journal.Entry.{Entry}
use Rattle.seg_journal.specs.declared.moves.Kind.{Kind}
use Rattle.seg_journal.specs.declared.moves.Kind.TheVariants.{Admit, Run}
use Rattle.twe_base.specs.Limits.{Bounds}
use Rattle.twe_program.specs.declared.program.Decl.{Decl}
use Rattle.twe_program.specs.Fitting.{TakesArguments}
use Rattle.twe_program.specs.Program.{Program}
use Rattle.twe_program.specs.WellFormed.{IsMain, IsWellFormed}
use Rattle.seg_meaning.specs.Entry.{effects_at, entry_frame}
use Rattle.isolation_laws.specs.soundness.KeepsEffects.{KeepsEffects}
use Rattle.isolation_laws.specs.soundness.RunsWith.{RunsWith}
use Rattle.isolation_laws.proofs.soundness.Segments.{entry_runs}
use Rattle.machine_state.specs.declared.state.State.{State}
use Rattle.machine_state.specs.declared.state.TaskRow.{TaskRow}
use Rattle.machine_state.specs.declared.state.TaskStatus.TheVariants.{Enabled, Made}
use Rattle.machine_state.specs.Legal.{MayTake}
use Rattle.machine_state.specs.Moves.{admitted, move_result, new_row, ran, start_of, result_by_kind}
use Rattle.machine_state.specs.Rows.{HasStatus, IsRow}
use Rattle.machine_state.specs.Runs.{AlwaysIsolated, IsReached, Legal, LegalFrom, replayed, state_after}
use Rattle.machine_state.proofs.standing.ReachedStands.{reached_stands, start_stands, taken_stands}
use Rattle.machine_state.proofs.standing.Standing.{Stands}
use Rattle.isolation_laws.specs.Rows.{ChildrenApart}
use Rattle.isolation_laws.specs.Within.{AlwaysWithin, SpawnedWithin}
use Rattle.isolation_laws.proofs.journals.AdmissionKeeps.{admission_kept}
use Rattle.isolation_laws.proofs.frames.Frames.{OnPath}
use Rattle.isolation_laws.proofs.rows.ListElements.{one_there}
use Rattle.isolation_laws.proofs.journals.Invariant.{Kept}
use Rattle.isolation_laws.proofs.rows.LinksOfRows.{spawned_row}
use Rattle.isolation_laws.proofs.journals.MakeKeepsPaths.{on_path_entry}
use Rattle.isolation_laws.proofs.journals.SegmentKeeps.{segment_kept}

-- each beginning of a legal journal is legal
legal_take : (p : Program) (lim : Bounds) (journal : List Entry) (n : ℕ) (st : State) → LegalFrom p lim st journal → LegalFrom p lim st (take n journal)
legal_take p lim [] zero st legal = tt
legal_take p lim [] (suc n) st legal = tt
legal_take p lim (entry ∷ journal) zero st legal = tt
legal_take p lim (entry ∷ journal) (suc n) st legal = (legal.0, legal.1, legal_take p lim journal n (move_result p lim st entry.mv).0 legal.2)

pub beginnings_legal : (p : Program) (lim : Bounds) (journal : List Entry) (n : ℕ) → Legal p lim journal → Legal p lim (take n journal)
beginnings_legal p lim journal n legal = legal_take p lim journal n (start_of p lim) legal

-- so it leads to a reached state
pub beginning_reached : (p : Program) (lim : Bounds) (journal : List Entry) → Legal p lim journal → (n : ℕ) → IsReached p lim (state_after p lim (take n journal))
beginning_reached p lim journal legal n = record { journal = take n journal; legal = beginnings_legal p lim journal n legal; same = refl }

takes_none : (o : Option Decl) → IsMain o → TakesArguments o 0
takes_none None main = main
takes_none (Some decl) main = main.0

module _ (p : Program) (wf : IsWellFormed p) (keeps : KeepsEffects p) (lim : Bounds) where
  -- one move keeps it
  admit_by : (st : State) (t : ℕ) (o : Option TaskRow) → slice_get st.tasks t ≡ o → Kept p st → MayTake st Admit t → Kept p (admitted st t o)
  admit_by st t None is kept may = kept
  admit_by st t (Some row) is kept may = admission_kept p st kept t row is may

  run_by : (st : State) (t : ℕ) (o : Option TaskRow) → slice_get st.tasks t ≡ o → Stands p lim st → Kept p st → MayTake st Run t
      → Stands p lim (ran p lim st t o).0 → Kept p (ran p lim st t o).0
  run_by st t None is stands kept may later = kept
  run_by st t (Some row) is stands kept may later = segment_kept p wf keeps lim st stands kept t row is may later

  move_kept : (st : State) (kind : Kind) (t : ℕ) → Stands p lim st → Kept p st → MayTake st kind t → Stands p lim (result_by_kind p lim st kind t).0 → Kept p (result_by_kind p lim st kind t).0
  move_kept st Admit t stands kept may later = admit_by st t (slice_get st.tasks t) refl kept may
  move_kept st Run t stands kept may later = run_by st t (slice_get st.tasks t) refl stands kept may later

  -- a journal keeps it
  whole_kept : (journal : List Entry) (st : State) → LegalFrom p lim st journal → Stands p lim st → Kept p st → Kept p (replayed p lim st journal)
  whole_kept [] st legal stands kept = kept
  whole_kept (entry ∷ journal) st legal stands kept =
      let later = taken_stands p lim wf st entry.mv.kind entry.mv.task legal.0 stands in
      whole_kept journal (move_result p lim st entry.mv).0 legal.2 later (move_kept st entry.mv.kind entry.mv.task stands kept legal.0 later)

  -- the start, with `main` alone, has it
  abbrev first : TaskRow
  first = new_row lim 0 None (entry_frame p p.main []) [] (effects_at p p.main [])

  the_first : (t : ℕ) (row : TaskRow) → IsRow (start_of p lim) t row → row ≡ first
  the_first zero row is = let same : row ≡ first = cc in same
  the_first (suc t) row is = absurd (cc)

  no_parent : (t q : ℕ) (row : TaskRow) → IsRow (start_of p lim) t row → row.parent ≡ Some q → ⊥
  no_parent t q row is of =
      let none : None ≡ Some q = sym (ap (λ (r : TaskRow). r.parent) (the_first t row is)) ∙ of in
      absurd (cc)

  not_enabled : (t : ℕ) → ¬ HasStatus (start_of p lim) t Enabled
  not_enabled t may =
      let both : Made ≡ Enabled = sym (ap (λ (r : TaskRow). r.status) (the_first t may.0 may.1)) ∙ may.2 in
      absurd (cc)

  first_runs : RunsWith p first.args first.frame
  first_runs =
      let r = entry_runs p p.main [] (takes_none (slice_get p.tasks p.main) wf.main) in
      record { count = r.count; params = r.params; next = r.next }

  start_kept : Kept p (start_of p lim)
  start_kept = record {
    runs = λ t row is. subst (λ (r : TaskRow). RunsWith p r.args r.frame) (sym (the_first t row is)) first_runs;
    within = λ t q child parent is_child is_parent of. absurd (no_parent t q child is_child of);
    siblings = λ c d t a b differ is_a is_b of_a of_b free_a free_b some. no_parent c t a is_a of_a;
    paths = λ t row is some.
        subst (λ (r : TaskRow). OnPath p (start_of p lim).tasks r.frame) (sym (the_first t row is)) (on_path_entry p (start_of p lim).tasks p.main [] 0 lim.fuel);
    isolated = λ s t differ may_s may_t i. absurd (not_enabled s may_s);
  }

  pub reached_kept : (st : State) → IsReached p lim st → Kept p st
  reached_kept st reached =
      subst (Kept p) (sym reached.same) (whole_kept reached.journal (start_of p lim) reached.legal (start_stands p lim wf) start_kept)

  pub runs_isolated : (journal : List Entry) → Legal p lim journal → AlwaysIsolated p lim journal
  runs_isolated journal legal n within = (reached_kept _ (beginning_reached p lim journal legal n)).isolated

  pub reached_within : (st : State) → IsReached p lim st → SpawnedWithin st
  reached_within st reached = (reached_kept st reached).within

  pub runs_within : (journal : List Entry) → Legal p lim journal → AlwaysWithin p lim journal
  runs_within journal legal n within = reached_within _ (beginning_reached p lim journal legal n)

  pub children_apart : (st : State) → IsReached p lim st → ChildrenApart st
  children_apart st reached c d t a b differ is_a is_b of_a of_b =
      let agree = (reached_stands p lim st wf reached).links in
      let first = spawned_row st agree c t of_a in
      let second = spawned_row st agree d t of_b in
      let same : first.0 ≡ a = one_there st.tasks c first.0 a first.1 is_a in
      let other : second.0 ≡ b = one_there st.tasks d second.0 b second.1 is_b in
      (reached_kept st reached).siblings c d t a b differ is_a is_b
      (sym (ap (λ (r : TaskRow). r.parent) same) ∙ first.2) (sym (ap (λ (r : TaskRow). r.parent) other) ∙ second.2)
      (sym (ap (λ (r : TaskRow). r.joined) same) ∙ first.3) (sym (ap (λ (r : TaskRow). r.joined) other) ∙ second.3)
