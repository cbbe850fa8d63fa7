-- So if main is deterministic, all runs that have ended have ended alike, and as the sequential execution of main does.
use Rattle.std.proofs.Common.{◌≡◌, ℤ, List, [], ◌∷◌, length, Option, None, Some, inl, inr, refl, sym, ap, ◌∙◌, subst}
use Rattle.twe_base.specs.Limits.{Bounds, IsWithin}
use Rattle.seg_journal.specs.declared.journal.Entry.{Entry}
use Rattle.twe_program.specs.Program.{Program}
use Rattle.twe_program.specs.WellFormed.{IsWellFormed}
use Rattle.isolation_laws.specs.soundness.KeepsEffects.{KeepsEffects}
use Rattle.machine_state.specs.declared.state.FirstFault.{FirstFault}
use Rattle.machine_state.specs.declared.state.State.{State}
use Rattle.machine_state.specs.LowestFirst.{IsOver}
use Rattle.machine_state.specs.Moves.{initial_values, move_result, start_of}
use Rattle.machine_state.specs.Runs.{AllTasksDone, IsReached, Legal, LegalFrom, replayed, state_after}
use Rattle.determinism_laws.specs.elision.Elision.{Ending, ends, fails, goes_on, strays, elided, frame_at_start, most_segments, progress_at_start}
use Rattle.determinism_laws.specs.declared.elision.progress.Progress.{Progress}
use Rattle.determinism_laws.proofs.elision.Within.{most_is_enough, over_is, run_ends}
use Rattle.determinism_laws.specs.results.Main.{IsResultOfMain, MainIsDeterministic}
use Rattle.determinism_laws.proofs.results.MainResult.{main_has_its_result}
use Rattle.determinism_laws.specs.Endings.{CanFinish, HasEndedAs, HaveEndedAlike, SomeRunFinishes}
use Rattle.determinism_laws.proofs.EndedRuns.{ended_has_fault, ended_is_done}
use Rattle.determinism_laws.proofs.KeptFinishing.{finishing_stays}
use Rattle.determinism_laws.proofs.MainRuns.{done_run}
use Rattle.determinism_laws.proofs.NearFaults.{reached_more, stays_faulty}
use Rattle.determinism_laws.proofs.NeverStrays.{never_strays}

module _ (p : Program) (wf : IsWellFormed p) (keeps : KeepsEffects p) (flag : MainIsDeterministic p) (lim : Bounds) where
  -- each state of a run can finish if its first one can
  finishes_along : (journal : List Entry) (st : State) → IsReached p lim st → CanFinish p lim st → LegalFrom p lim st journal → CanFinish p lim (replayed p lim st journal)
  finishes_along [] st reached finish legal = finish
  finishes_along (entry ∷ journal) st reached finish legal =
      finishes_along journal (move_result p lim st entry.mv).0 (reached_more p wf keeps lim st entry.mv reached legal.0) (finishing_stays p wf keeps flag lim st reached finish entry.mv legal.0) legal.2

  can_finish : SomeRunFinishes p lim → (journal : List Entry) → Legal p lim journal → CanFinish p lim (state_after p lim journal)
  can_finish some journal legal =
      finishes_along journal (start_of p lim) (record { journal = []; legal = tt; same = refl }) (record { entries = some.journal; legal = some.legal; done = some.done }) legal

  -- and then no task has met a fault
  none_yet : (st : State) → IsReached p lim st → CanFinish p lim st → (found : Option FirstFault) → st.first_fault ≡ found → st.first_fault ≡ None
  none_yet st reached finish None is = is
  none_yet st reached finish (Some fault) is = absurd (stays_faulty p wf keeps lim finish.entries st fault reached finish.legal is finish.done)

  pub no_fault : SomeRunFinishes p lim → (journal : List Entry) → Legal p lim journal → (state_after p lim journal).first_fault ≡ None
  no_fault some journal legal =
      let st = state_after p lim journal in
      none_yet st (record { journal = journal; legal = legal; same = refl }) (can_finish some journal legal) st.first_fault refl

  module _ (within : IsWithin lim.fuel lim.tasks) where
    no_fault_here : SomeRunFinishes p lim → (st : State) → IsReached p lim st → st.first_fault ≡ None
    no_fault_here some st reached = ap (λ (s : State). s.first_fault) reached.same ∙ no_fault some reached.journal reached.legal

    pub finishes_too : SomeRunFinishes p lim → (st : State) → IsReached p lim st → IsOver st → AllTasksDone st
    finishes_too some st reached over = ended_is_done p wf keeps flag lim within st reached over (no_fault_here some st reached)

    -- By how the sequential execution of main ends.

    same_result : (st : State) → AllTasksDone st → (value : ℤ) (later : Progress) → IsResultOfMain p lim st → elided p lim p.main [] (initial_values p.cells) ≡ ends value later
        → st.first_fault ≡ None → HasEndedAs st (ends value later)
    same_result st done value later result is none =
        let same : ends result.value result.later ≡ ends value later = sym result.ends ∙ is in
        let one : result.later ≡ later = cc (same) in (
          (none, done),
          result.cells ∙ ap (λ (s : Progress). s.cells) one,
          result.prints ∙ ap (λ (s : Progress). s.prints) one,
          result.tasks ∙ ap (λ (s : Progress). length s.values) one,
        )

    by_ending : (st : State) → IsReached p lim st → IsOver st → (e : Ending) → elided p lim p.main [] (initial_values p.cells) ≡ e → HasEndedAs st e
    by_ending st reached over (ends value later) is =
        let some = done_run p wf keeps flag lim value later is in
        let done = finishes_too some st reached over in
        let result = main_has_its_result p wf keeps lim within.tasks_least reached.journal reached.legal flag (subst AllTasksDone reached.same done) in
        same_result st done value later (subst (IsResultOfMain p lim) (sym reached.same) result) is (no_fault_here some st reached)
    by_ending st reached over (fails kind place) is = ended_has_fault p wf keeps flag lim within kind place is st reached over
    by_ending st reached over strays is = never_strays p wf keeps lim p.main [] (initial_values p.cells) flag is
    by_ending st reached over goes_on is =
        over_is (elided p lim p.main [] (initial_values p.cells))
        (run_ends p lim (most_segments lim) (frame_at_start p lim p.main []) (progress_at_start (initial_values p.cells)) (most_is_enough p lim p.main [] (initial_values p.cells) within.tasks_least)) is

    pub ends_as_the_execution : (st : State) → IsReached p lim st → IsOver st → HasEndedAs st (elided p lim p.main [] (initial_values p.cells))
    ends_as_the_execution st reached over = by_ending st reached over (elided p lim p.main [] (initial_values p.cells)) refl

    both : (one other : State) (e : Ending) → HasEndedAs one e → HasEndedAs other e → HaveEndedAlike one other
    both one other (ends value later) a b = inl (a.0, b.0, record { cells = a.1 ∙ sym b.1; prints = a.2 ∙ sym b.2; tasks = a.3 ∙ sym b.3 })
    both one other (fails kind place) a b = inr (a, b)
    both one other strays a b = absurd a
    both one other goes_on a b = absurd a

    pub end_alike : (one other : State) → IsReached p lim one → IsReached p lim other → IsOver one → IsOver other → HaveEndedAlike one other
    end_alike one other reached reached_too over over_too =
        both one other (elided p lim p.main [] (initial_values p.cells)) (ends_as_the_execution one reached over) (ends_as_the_execution other reached_too over_too)
