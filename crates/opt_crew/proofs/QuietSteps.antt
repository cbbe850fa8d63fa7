-- A quiet step in a run, as a step of the crew that has the run.
use Rattle.std.proofs.Common.{◌≡◌, ◌<◌, ℕ, List, [], ◌∷◌, ◌++◌, Option, Some, length, refl, sym, ap, ◌∙◌, subst}
use Rattle.std.proofs.lemmas.Option.{same_Some}
use mathlib.Core.List.{IsPrefix}
use Rattle.seg_journal.specs.declared.journal.Entry.{Entry}
use Rattle.twe_base.specs.Limits.{Bounds}
use Rattle.twe_program.specs.Program.{Program}
use Rattle.machine_state.specs.declared.ending.Outcome.TheVariants as outcomes
use Rattle.machine_state.specs.declared.state.State.{State}
use Rattle.machine_state.specs.LowestFirst.{IsLowest}
use Rattle.machine_state.specs.Runs.{IsOutcome, entry_of, state_after}
use Rattle.flat_sched.specs.declared.ending.RunEnd.{RunEnd}
use Rattle.flat_sched.specs.declared.ending.RunEnd.TheVariants.{AllDone, Fault, Stuck, Unfinished}
use Rattle.flat_sched.specs.RunEnds.{IsRunEnd}
use Rattle.twe_rounds.specs.Crews.{CrewRun, GoesOn, GrowsUnlessOver, StepsFrom, StepsQuietly}
use Rattle.opt_engine.specs.declared.core_run.CoreRun.{CoreRun}
use Rattle.opt_crew.specs.Keeping.{CrewIsKept, IsSound, crew_journal}
use Rattle.opt_crew.specs.Stepping.{StepsRun}

module _ (p : Program) (lim : Bounds) (workers : ℕ) where
  -- the crew whose run has this journal
  abbrev pub crew_of : List Entry → CrewRun
  crew_of journal = record { prog = p; lim = lim; workers = workers; journal = Some journal }

  pub steps_from : (old new : CoreRun) (end : RunEnd) → IsSound p lim old → StepsRun p lim old new end → StepsFrom (crew_of old.journal) (crew_of new.journal) old.journal end
  steps_from old new AllDone sound steps =
      (ap (λ (r : CoreRun). crew_of r.journal) steps.0, subst (λ (st : State). IsRunEnd st AllDone) sound.run_is.same steps.1)
  steps_from old new (Fault task kind place) sound steps =
      (ap (λ (r : CoreRun). crew_of r.journal) steps.0, subst (λ (st : State). IsRunEnd st (Fault task kind place)) sound.run_is.same steps.1)
  steps_from old new (Stuck cycle) sound steps =
      (ap (λ (r : CoreRun). crew_of r.journal) steps.0, subst (λ (st : State). IsRunEnd st (Stuck cycle)) sound.run_is.same steps.1)
  steps_from old new Unfinished sound steps =
      let mv = steps.1.0 in (
        subst (λ (st : State). IsOutcome st outcomes.Unfinished) sound.run_is.same steps.0,
        (
          mv,
          subst (λ (st : State). IsLowest st mv) sound.run_is.same steps.1.1,
          ap crew_of (steps.1.2 ∙ ap (λ (st : State). old.journal ++ entry_of p lim st mv ∷ []) sound.run_is.same),
        ),
      )

  -- a quiet step of a crew that has the run `old`
  pub quiet_kept : (crew : CrewRun) (kept : Option CoreRun) (old new : CoreRun) (end : RunEnd) → kept ≡ Some old → CrewIsKept p lim kept
      → record { prog = p; lim = lim; workers = workers; journal = crew_journal kept } ≡ crew → StepsRun p lim old new end → StepsQuietly crew (crew_of new.journal) end
  quiet_kept crew kept old new end is sound view steps =
      let same : crew_of old.journal ≡ crew = ap (λ (k : Option CoreRun). record { prog = p; lim = lim; workers = workers; journal = crew_journal k }) (sym is) ∙ view in
      let sound_now : IsSound p lim old = subst (CrewIsKept p lim) is sound in
      subst (λ (c : CrewRun). StepsQuietly c (crew_of new.journal) end) same (old.journal, refl, sound_now.run_is.legal, steps_from old new end sound_now steps)

  -- a round of a crew that has the run `old`
  pub round_kept : (crew : CrewRun) (kept : Option CoreRun) (old new : CoreRun) → kept ≡ Some old → CrewIsKept p lim kept
      → record { prog = p; lim = lim; workers = workers; journal = crew_journal kept } ≡ crew → IsSound p lim new → IsPrefix old.journal new.journal
      → (workers ≡ 1 → IsOutcome old.state outcomes.Unfinished → length old.journal < length new.journal) → GoesOn crew (crew_of new.journal)
  round_kept crew kept old new is sound view after begins longer =
      let same : crew_of old.journal ≡ crew = ap (λ (k : Option CoreRun). record { prog = p; lim = lim; workers = workers; journal = crew_journal k }) (sym is) ∙ view in
      let sound_now : IsSound p lim old = subst (CrewIsKept p lim) is sound in
      let goes : GoesOn (crew_of old.journal) (crew_of new.journal) = record {
        journal = old.journal;
        later = new.journal;
        was = refl;
        is = refl;
        legal = after.run_is.legal;
        begins = begins;
        longer = λ one unfinished. longer one (subst (λ (st : State). IsOutcome st outcomes.Unfinished) (sym sound_now.run_is.same) unfinished);
      } in
      subst (λ (c : CrewRun). GoesOn c (crew_of new.journal)) same goes

  -- its journal is longer
  pub grows_kept : (crew : CrewRun) (kept : Option CoreRun) (old new : CoreRun) → kept ≡ Some old → CrewIsKept p lim kept
      → record { prog = p; lim = lim; workers = workers; journal = crew_journal kept } ≡ crew
      → (IsOutcome old.state outcomes.Unfinished → length old.journal < length new.journal) → GrowsUnlessOver crew (crew_of new.journal)
  grows_kept crew kept old new is sound view longer =
      let same : crew_of old.journal ≡ crew = ap (λ (k : Option CoreRun). record { prog = p; lim = lim; workers = workers; journal = crew_journal k }) (sym is) ∙ view in
      let sound_now : IsSound p lim old = subst (CrewIsKept p lim) is sound in
      let grows : GrowsUnlessOver (crew_of old.journal) (crew_of new.journal) = λ journal later was then unfinished.
      let first : old.journal ≡ journal = same_Some old.journal journal was in
      let last : new.journal ≡ later = same_Some new.journal later then in
      let state : state_after p lim journal ≡ old.state = ap (state_after p lim) (sym first) ∙ sym sound_now.run_is.same in
      let more = longer (subst (λ (st : State). IsOutcome st outcomes.Unfinished) state unfinished) in
      subst (λ (l : List Entry). length journal < length l) last (subst (λ (l : List Entry). length l < length new.journal) first more) in
      subst (λ (c : CrewRun). GrowsUnlessOver c (crew_of new.journal)) same grows
