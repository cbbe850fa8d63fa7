-- The sequential execution of a deterministic main is a run: the one that admits main and then takes each move in the order
-- of sequential code.
use Rattle.std.proofs.Common.{◌≡◌, ◌≢◌, ◌⊎◌, ◌≤◌, ◌<◌, ◌++◌, ℕ, zero, suc, ℤ, [], ◌∷◌, None, Some, inl, inr, refl, sym, ap, ◌∙◌, subst, arith}
use Rattle.std.specs.Prelude.{slice_get, pos}
use Rattle.std.proofs.lemmas.Option.{slice_get_within}
use Rattle.twe_base.specs.declared.place.Place.{Place}
use Rattle.twe_base.specs.declared.fault.FaultKind.{FaultKind}
use Rattle.twe_base.specs.Limits.{Bounds}
use Rattle.seg_journal.specs.declared.moves.Kind.TheVariants.{Admit}
use Rattle.seg_journal.specs.declared.moves.Move.{Move}
use Rattle.twe_program.specs.Program.{Program}
use Rattle.twe_program.specs.WellFormed.{IsWellFormed}
use Rattle.seg_meaning.specs.Entry.{effects_at, entry_frame}
use Rattle.isolation_laws.specs.soundness.KeepsEffects.{KeepsEffects}
use Rattle.machine_state.specs.declared.state.State.{State}
use Rattle.machine_state.specs.declared.state.TaskRow.{TaskRow}
use Rattle.machine_state.specs.declared.state.TaskStatus.TheVariants.{Enabled, Done}
use Rattle.machine_state.specs.Legal.{MayMove}
use Rattle.machine_state.specs.Moves.{admitted_row, initial_values, move_result, new_row, start_of}
use Rattle.machine_state.specs.Rows.{HasStatus, IsRow}
use Rattle.machine_state.specs.Runs.{AllTasksDone, IsReached, entry_of}
use Rattle.machine_state.proofs.tasks.DoneFirst.{children_joined}
use Rattle.machine_state.proofs.lists.Places.{below_there, got_one}
use Rattle.machine_state.proofs.standing.ReachedStands.{reached_stands}
use Rattle.machine_state.proofs.replays.Replayed.{run_more}
use Rattle.machine_state.proofs.standing.Standing.{Stands}
use Rattle.determinism_laws.specs.declared.elision.progress.Progress.{Progress}
use Rattle.determinism_laws.specs.elision.Elision.{ends, fails, elided, most_segments}
use Rattle.determinism_laws.specs.results.Main.{MainIsDeterministic}
use Rattle.determinism_laws.proofs.results.MainTree.{in_tree}
use Rattle.determinism_laws.specs.Endings.{IsFaultOfRun, SomeRunFinishes}
use Rattle.determinism_laws.proofs.DepthFirst.{At, CameTo, Faults, Outcome, follows}

module _ (p : Program) (wf : IsWellFormed p) (keeps : KeepsEffects p) (flag : MainIsDeterministic p) (lim : Bounds) where
  abbrev first : State
  first = start_of p lim

  abbrev admit : Move
  admit = record { task = 0; kind = Admit }

  abbrev begun : State
  begun = (move_result p lim first admit).0

  abbrev made : TaskRow
  made = new_row lim 0 None (entry_frame p p.main []) [] (effects_at p p.main [])

  abbrev main : TaskRow
  main = admitted_row made

  alone : (s : ℕ) → s ≢ 0 → ¬ HasStatus first s Enabled
  alone zero differ enabled = differ refl
  alone (suc s) differ enabled = cc (enabled.1)

  may : MayMove first admit
  may = ((made, refl, refl), (λ s differ enabled interfere. absurd (alone s differ enabled)))

  reached_first : IsReached p lim first
  reached_first = record { journal = []; legal = tt; same = refl }

  reached_begun : IsReached p lim begun
  reached_begun =
      let run = run_more p lim [] first admit (record { legal = tt; same = refl }) may in
      record { journal = [] ++ entry_of p lim first admit ∷ []; legal = run.legal; same = run.same }

  only_main : (c : ℕ) (row : TaskRow) → IsRow begun c row → main ≡ row
  only_main zero row here = let same : main ≡ row = cc (here) in same
  only_main (suc c) row here = absurd (cc (here))

  at_begin : At p lim begun 0 main (pos 0 ∷ [])
  at_begin = record {
    reached = reached_begun;
    here = refl;
    enabled = refl;
    flag = flag;
    free = λ u wait. let none : None ≡ Some u = wait.waits in cc (none);
    children = λ c child here parent. let none : None ≡ Some 0 = ap (λ (r : TaskRow). r.parent) (only_main c child here) ∙ parent in absurd (cc (none));
    known = record {
      no_fault = refl;
      asked = refl;
      count = refl;
      kept = λ c child here done. let both : Enabled ≡ Done = ap (λ (r : TaskRow). r.status) (only_main c child here) ∙ done in absurd (cc (both));
    };
  }

  outcome : Outcome p lim begun 0 (elided p lim p.main [] (initial_values p.cells))
  outcome = follows p wf keeps lim (most_segments lim) begun 0 main (pos 0 ∷ []) [] at_begin

  -- once main is done, all tasks are
  module _ (st : State) (reached : IsReached p lim st) (row : TaskRow) (here : IsRow st 0 row) (done : row.status ≡ Done) where
    stands : Stands p lim st
    stands = reached_stands p lim st wf reached

    done_by : (fuel t : ℕ) → t ≤ suc fuel → (r : TaskRow) → IsRow st t r → (t ≡ 0) ⊎ ((q : ℕ) × (r.parent ≡ Some q)) → ((q : ℕ) (a : TaskRow) → q ≤ fuel → IsRow st q a → a.status ≡ Done) → r.status ≡ Done
    done_by fuel t le r there (inl is) below = ap (λ (x : TaskRow). x.status) (got_one (slice_get st.tasks 0) (subst (λ (n : ℕ). IsRow st n r) is there) here) ∙ done
    done_by fuel t le r there (inr parent) below =
        let lower : parent.0 < t = (stands.rows t r there).parent parent.0 parent.1 in
        let within = slice_get_within st.tasks t r there in
        let q = below_there st.tasks parent.0 (omega (arith, lower, within)) in
        let parent_done = below parent.0 q.0 (omega (arith, lower, le)) q.1 in
        (stands.rows t r there).joined (children_joined p st wf (lim, reached) parent.0 t q.0 r q.1 there parent.1 parent_done)

    spawned : (t : ℕ) (r : TaskRow) → IsRow st t r → (t ≡ 0) ⊎ ((q : ℕ) × (r.parent ≡ Some q))
    spawned t r there = (in_tree p wf keeps lim reached.journal reached.legal flag t r (subst (λ (s : State). IsRow s t r) reached.same there)).spawned

    done_below : (fuel t : ℕ) → t ≤ fuel → (r : TaskRow) → IsRow st t r → r.status ≡ Done
    done_below zero t le r there = let is : t ≡ 0 = omega (arith, le) in ap (λ (x : TaskRow). x.status) (got_one (slice_get st.tasks 0) (subst (λ (n : ℕ). IsRow st n r) is there) here) ∙ done
    done_below (suc fuel) t le r there = done_by fuel t le r there (spawned t r there) (λ q a low at_q. done_below fuel q low a at_q)

    all_done : AllTasksDone st
    all_done t r there = done_below t t (omega arith) r there

  whole : (value : ℤ) (later : Progress) → CameTo p lim begun 0 value later → SomeRunFinishes p lim
  whole value later came =
      let all = all_done came.after came.reached came.row came.here came.done in
      record { journal = came.reached.journal; legal = came.reached.legal; done = subst AllTasksDone came.reached.same all }

  faulty : (kind : FaultKind) (place : Place) → Faults p lim kind place → IsFaultOfRun p lim kind place
  faulty kind place f = record {
    journal = f.reached.journal;
    legal = f.reached.legal;
    task = f.task;
    fault = ap (λ (s : State). s.first_fault) (sym f.reached.same) ∙ f.fault;
  }

pub done_run : (p : Program) → IsWellFormed p → KeepsEffects p → MainIsDeterministic p → (lim : Bounds) (value : ℤ) (later : Progress)
    → elided p lim p.main [] (initial_values p.cells) ≡ ends value later → SomeRunFinishes p lim
done_run p wf keeps flag lim value later is =
    whole p wf keeps flag lim value later (subst (Outcome p lim (begun p wf keeps flag lim) 0) is (outcome p wf keeps flag lim))

pub fault_run : (p : Program) → IsWellFormed p → KeepsEffects p → MainIsDeterministic p → (lim : Bounds) (kind : FaultKind) (place : Place)
    → elided p lim p.main [] (initial_values p.cells) ≡ fails kind place → IsFaultOfRun p lim kind place
fault_run p wf keeps flag lim kind place is =
    faulty p wf keeps flag lim kind place (subst (Outcome p lim (begun p wf keeps flag lim) 0) is (outcome p wf keeps flag lim))
