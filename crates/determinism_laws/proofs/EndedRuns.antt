-- Runs that have ended. If main is deterministic and no task has met a fault, all tasks are done. And if the sequential
-- execution of main meets a fault, some task has met one.
use Rattle.std.proofs.Common.{◌≡◌, List, [], Option, None, Some, inl, inr, refl, sym, ◌∙◌, subst}
use Rattle.twe_base.specs.declared.place.Place.{Place}
use Rattle.twe_base.specs.declared.fault.FaultKind.{FaultKind}
use Rattle.twe_base.specs.Limits.{Bounds, IsWithin}
use Rattle.seg_journal.specs.declared.journal.Entry.{Entry}
use Rattle.seg_journal.specs.declared.moves.Move.{Move}
use Rattle.twe_program.specs.Program.{Program}
use Rattle.twe_program.specs.WellFormed.{IsWellFormed}
use Rattle.isolation_laws.specs.soundness.KeepsEffects.{KeepsEffects}
use Rattle.machine_state.specs.declared.ending.Outcome.TheVariants.{Unfinished}
use Rattle.machine_state.specs.declared.state.FirstFault.{FirstFault}
use Rattle.machine_state.specs.declared.state.State.{State}
use Rattle.machine_state.specs.Legal.{MayMove}
use Rattle.machine_state.specs.LowestFirst.{IsOver}
use Rattle.machine_state.specs.Moves.{initial_values}
use Rattle.machine_state.specs.Runs.{AllTasksDone, IsReached, Legal, state_after}
use Rattle.machine_state.proofs.tasks.Movers.{mover_there, mover_undone}
use Rattle.machine_state.proofs.lists.Places.{below_there}
use Rattle.determinism_laws.specs.elision.Elision.{elided, ends, fails}
use Rattle.determinism_laws.specs.results.Main.{HaveSameResult, MainIsDeterministic}
use Rattle.determinism_laws.proofs.results.MainResult.{main_has_its_result, mains_have_one_result}
use Rattle.determinism_laws.proofs.NeverStuck.{all_done_or_moves}

-- if all tasks are done, no move is legal
pub no_move : (st : State) → AllTasksDone st → (mv : Move) → ¬ MayMove st mv
no_move st all mv may =
    let row = below_there st.tasks mv.task (mover_there st mv.kind mv.task may) in
    mover_undone st mv.kind mv.task may (row.0, row.1, all mv.task row.0 row.1)

module _ (p : Program) (wf : IsWellFormed p) (keeps : KeepsEffects p) (flag : MainIsDeterministic p) (lim : Bounds) (within : IsWithin lim.fuel lim.tasks) where
  pub ended_is_done : (st : State) → IsReached p lim st → IsOver st → st.first_fault ≡ None → AllTasksDone st
  ended_is_done st reached over no_fault =
      elim (all_done_or_moves p wf keeps flag lim within st reached no_fault) [
        | inl all ↦ all
        | inr move ↦ absurd (over Unfinished (no_fault, (λ all. no_move st all move.0 move.1), move) refl)
      ]

  reached_after : (journal : List Entry) → Legal p lim journal → IsReached p lim (state_after p lim journal)
  reached_after journal legal = record { journal = journal; legal = legal; same = refl }

  pub ended_have_one_result : (one other : List Entry) → Legal p lim one → Legal p lim other → IsOver (state_after p lim one) → IsOver (state_after p lim other)
      → (state_after p lim one).first_fault ≡ None → (state_after p lim other).first_fault ≡ None → HaveSameResult (state_after p lim one) (state_after p lim other)
  ended_have_one_result one other legal_one legal_other over_one over_other none_one none_other =
      mains_have_one_result p wf keeps flag lim within.tasks_least one other legal_one legal_other
      (ended_is_done (state_after p lim one) (reached_after one legal_one) over_one none_one)
      (ended_is_done (state_after p lim other) (reached_after other legal_other) over_other none_other)

  module _ (kind : FaultKind) (place : Place) (faults : elided p lim p.main [] (initial_values p.cells) ≡ fails kind place) where
    pub never_done : (journal : List Entry) → Legal p lim journal → ¬ AllTasksDone (state_after p lim journal)
    never_done journal legal all =
        let result = main_has_its_result p wf keeps lim within.tasks_least journal legal flag all in
        let both : ends result.value result.later ≡ fails kind place = sym result.ends ∙ faults in
        cc (both)

    fault_by : (st : State) → (found : Option FirstFault) → st.first_fault ≡ found → ¬ (st.first_fault ≡ None) → (fault : FirstFault) × (st.first_fault ≡ Some fault)
    fault_by st None is some = absurd (some is)
    fault_by st (Some fault) is some = (fault, is)

    pub ended_has_fault : (st : State) → IsReached p lim st → IsOver st → (fault : FirstFault) × (st.first_fault ≡ Some fault)
    ended_has_fault st reached over =
        fault_by st st.first_fault refl (λ none.
        never_done reached.journal reached.legal (subst AllTasksDone reached.same (ended_is_done st reached over none)))
