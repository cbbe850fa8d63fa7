-- What holds of a lowest-first run at each step.
use Rattle.std.proofs.Common.{◌≡◌, List, [], ◌∷◌, ◌++◌, None, refl, sym, ap, ◌∙◌, subst}
use Rattle.seg_journal.specs.declared.journal.Entry.{Entry}
use Rattle.seg_journal.specs.declared.moves.Move.{Move}
use Rattle.twe_base.specs.Limits.{Bounds}
use Rattle.twe_program.specs.Program.{Program}
use Rattle.machine_state.specs.declared.ending.Outcome.TheVariants.{Unfinished}
use Rattle.machine_state.specs.declared.state.State.{State}
use Rattle.machine_state.specs.Legal.{MayMove}
use Rattle.machine_state.specs.LowestFirst.{IsLowest, IsOver, LowestFirst}
use Rattle.machine_state.specs.Moves.{move_result, start_of}
use Rattle.machine_state.specs.Runs.{counted, IsOutcome, IsRun, entry_of}
use Rattle.flat_sched.proofs.Faults.{taken_well}
use Rattle.flat_sched.specs.SoFar.{LowestSoFar}
use Rattle.flat_sched.proofs.SoFar.{NoFaults, counted_more, legal_more, lowest_more, lowest_whole, none_more, replayed_more}

-- the run so far
pub record IsGoing (p : Program) (lim : Bounds) (journal : List Entry) (st : State) : Type 0 where
  pub run : IsRun p lim journal st
  pub lowest : LowestSoFar p lim journal
  pub clear : st.first_fault ≡ None → NoFaults journal
  pub counted : counted journal ≡ journal

module _ (p : Program) (lim : Bounds) where
  -- at the start
  pub at_start : IsGoing p lim [] (start_of p lim)
  at_start = record { run = record { legal = tt; same = refl }; lowest = tt; clear = λ none. tt; counted = refl }

  -- one move more
  module _ (journal : List Entry) (st : State) (mv : Move) (going : IsGoing p lim journal st) (unfinished : IsOutcome st Unfinished) (low : IsLowest st mv) where
    pub run_goes_on : IsRun p lim (journal ++ entry_of p lim st mv ∷ []) (move_result p lim st mv).0
    run_goes_on = record {
      legal = legal_more p lim (start_of p lim) journal (entry_of p lim st mv) going.run.legal (subst (λ (s : State). MayMove s mv) going.run.same low.legal)
          (ap (λ (s : State). (move_result p lim s mv).1) (sym going.run.same));
      same = ap (λ (s : State). (move_result p lim s mv).0) going.run.same ∙ sym (replayed_more p lim (start_of p lim) journal (entry_of p lim st mv));
    }

    pub goes_on : IsGoing p lim (journal ++ entry_of p lim st mv ∷ []) (move_result p lim st mv).0
    goes_on =
        let none = going.clear unfinished.0 in record {
          run = run_goes_on;
          lowest = lowest_more p lim (start_of p lim) journal (entry_of p lim st mv) going.lowest
              (subst (λ (s : State). IsOutcome s Unfinished) going.run.same unfinished) (subst (λ (s : State). IsLowest s mv) going.run.same low)
              (ap (λ (s : State). (move_result p lim s mv).1) (sym going.run.same));
          clear = λ well. none_more journal (entry_of p lim st mv) none (taken_well p lim st mv.kind mv.task well);
          counted = counted_more journal (entry_of p lim st mv) none;
        }

  -- at its end the run is the lowest-first one
  pub ended_lowest : (journal : List Entry) (st : State) → IsGoing p lim journal st → IsOver st → LowestFirst p lim journal
  ended_lowest journal st going over = lowest_whole p lim (start_of p lim) journal going.lowest (subst IsOver going.run.same over)
