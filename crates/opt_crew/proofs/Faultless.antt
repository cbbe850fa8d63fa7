-- A run that has met no fault stays sound over a legal move, and over the moves of a draft.
use Rattle.std.proofs.Common.{◌≡◌, ℕ, List, [], ◌∷◌, ◌++◌, Option, None, Some, refl, sym, ap, ◌∙◌, subst, append_assoc}
use Rattle.std.proofs.lemmas.Option.{same_Some}
use Rattle.seg_journal.specs.declared.journal.Entry.{Entry}
use Rattle.seg_journal.specs.declared.moves.Kind.TheVariants as kinds
use Rattle.seg_journal.specs.declared.moves.Move.{Move}
use Rattle.twe_base.specs.Limits.{Bounds}
use Rattle.twe_program.specs.Program.{Program}
use Rattle.machine_state.specs.declared.state.State.{State}
use Rattle.machine_state.specs.declared.state.TaskRow.{TaskRow}
use Rattle.machine_state.specs.declared.state.TaskStatus.{TaskStatus}
use Rattle.machine_state.specs.declared.state.TaskStatus.TheVariants.{Made, Enabled, Done, Faulted}
use Rattle.machine_state.specs.Legal.{MayMove}
use Rattle.machine_state.specs.Moves.{admitted, move_result, start_of}
use Rattle.machine_state.specs.Rows.{IsRow}
use Rattle.machine_state.specs.Runs.{entry_of}
use Rattle.machine_state.proofs.replays.Replayed.{run_more}
use Rattle.flat_sched.proofs.Faults.{taken_well}
use Rattle.twe_rounds.proofs.Faultless.{counted_more, none_more}
use Rattle.opt_engine.specs.declared.core_run.CoreRun.{CoreRun}
use Rattle.opt_engine.specs.declared.drafts.Drafted.{Drafted}
use Rattle.opt_engine.specs.declared.verdict.Verdict.{Verdict}
use Rattle.opt_engine.specs.declared.verdict.Verdict.TheVariants.{Committed, Passed, Held, Changed}
use Rattle.opt_engine.specs.Taking.{TakingSteps}
use Rattle.opt_engine.specs.NextMoves.{AnswersNext}
use Rattle.opt_engine.specs.Verdicts.{AnswersCommit, AreLegalFrom, entries_from, moves_of, state_from}
use Rattle.opt_crew.specs.Keeping.{IsSound, StopsAtFault}

-- a run that has not begun is sound
pub begins_sound : (p : Program) (lim : Bounds) → IsSound p lim (record { journal = []; state = start_of p lim })
begins_sound p lim = record { run_is = record { legal = tt; same = refl }; ends = record { clear = λ _. tt; counts = refl } }

module _ (p : Program) (lim : Bounds) where
  -- the run after a move
  abbrev pub more : CoreRun → Move → CoreRun
  more old mv = record { journal = old.journal ++ entry_of p lim old.state mv ∷ []; state = (move_result p lim old.state mv).0 }

  -- a sound run that has met no fault stays sound over a legal move
  pub sound_more : (old : CoreRun) (mv : Move) → IsSound p lim old → old.state.first_fault ≡ None → MayMove old.state mv → IsSound p lim (more old mv)
  sound_more old mv sound clear may =
      let none = sound.ends.clear clear in
      record {
        run_is = run_more p lim old.journal old.state mv sound.run_is may;
        ends = record {
          clear = λ well. none_more old.journal (entry_of p lim old.state mv) none (taken_well p lim old.state mv.kind mv.task well);
          counts = counted_more old.journal (entry_of p lim old.state mv) none;
        };
      }

  -- the same of a run that equals it
  pub sound_as : (old new : CoreRun) → old.journal ≡ new.journal → old.state ≡ new.state → IsSound p lim old → IsSound p lim new
  sound_as old new journal state sound =
      let same : old ≡ new = λ i. record { journal = journal i; state = state i } in
      subst (IsSound p lim) same sound

  -- so it does when the move is taken
  pub sound_steps : (old new : CoreRun) (mv : Move) → IsSound p lim old → old.state.first_fault ≡ None → MayMove old.state mv → TakingSteps p lim old mv new → IsSound p lim new
  sound_steps old new mv sound clear may steps =
      sound_as (more old mv) new (sym steps.journal) (sym steps.state) (sound_more old mv sound clear may)

  -- an admission meets no fault
  admitted_clear : (st : State) (t : ℕ) (row : TaskRow) → IsRow st t row → st.first_fault ≡ None → (move_result p lim st (record { kind = kinds.Admit; task = t })).0.first_fault ≡ None
  admitted_clear st t row there clear = ap (λ (found : Option TaskRow). (admitted st t found).first_fault) there ∙ clear

  -- over its segment alone
  one_move : (old new : CoreRun) (t : ℕ) → IsSound p lim old → old.state.first_fault ≡ None
      → AreLegalFrom p lim old.state (record { kind = kinds.Run; task = t } ∷ [])
      → new.journal ≡ old.journal ++ entries_from p lim old.state (record { kind = kinds.Run; task = t } ∷ [])
      → new.state ≡ state_from p lim old.state (record { kind = kinds.Run; task = t } ∷ []) → IsSound p lim new
  one_move old new t sound clear legal journal state =
      let run : Move = record { kind = kinds.Run; task = t } in
      sound_as (more old run) new (sym journal) (sym state) (sound_more old run sound clear legal.0)

  -- a sound run that has met no fault stays sound over the moves of a draft
  sound_moves : (old new : CoreRun) (t : ℕ) (row : TaskRow) (status : TaskStatus) → IsSound p lim old → old.state.first_fault ≡ None → IsRow old.state t row
      → AreLegalFrom p lim old.state (moves_of status t) → new.journal ≡ old.journal ++ entries_from p lim old.state (moves_of status t)
      → new.state ≡ state_from p lim old.state (moves_of status t) → IsSound p lim new
  sound_moves old new t row Made sound clear there legal journal state =
      let admit : Move = record { kind = kinds.Admit; task = t } in
      let run : Move = record { kind = kinds.Run; task = t } in
      let between = more old admit in
      let both : (old.journal ++ entry_of p lim old.state admit ∷ []) ++ entry_of p lim between.state run ∷ [] ≡ new.journal =
      append_assoc old.journal (entry_of p lim old.state admit ∷ []) (entry_of p lim between.state run ∷ []) ∙ sym journal in
      sound_as (more between run) new both (sym state)
      (sound_more between run (sound_more old admit sound clear legal.0) (admitted_clear old.state t row there clear) legal.1.0)
  sound_moves old new t row Enabled sound clear there legal journal state = one_move old new t sound clear legal journal state
  sound_moves old new t row Done sound clear there legal journal state = one_move old new t sound clear legal journal state
  sound_moves old new t row Faulted sound clear there legal journal state = one_move old new t sound clear legal journal state

  -- what a core keeps after it has answered to a draft, if its run had met no fault
  pub answered_stops : (earlier : List Entry) (old new : Option CoreRun) (run : CoreRun) (d : Drafted) (verdict : Verdict) → old ≡ Some run → StopsAtFault old
      → run.state.first_fault ≡ None → AnswersCommit p lim earlier old d verdict new → StopsAtFault new
  answered_stops earlier old new run d (Committed number) is stops clear answers =
      let had = answers.0 in
      let same : had ≡ run = same_Some had run (sym answers.1 ∙ is) in
      let sound : IsSound p lim had = record { run_is = answers.2.run_is; ends = subst StopsAtFault answers.1 stops } in
      let takes = answers.3.2 in
      let after : IsSound p lim answers.3.0 =
      sound_moves had answers.3.0 d.task takes.row takes.row.status sound (ap (λ (r : CoreRun). r.state.first_fault) same ∙ clear) takes.there takes.legal takes.journal takes.state in
      subst StopsAtFault (sym answers.3.1) after.ends
  answered_stops earlier old new run d Passed is stops clear answers = subst StopsAtFault (sym (answers.3.0 ∙ sym answers.1)) stops
  answered_stops earlier old new run d (Held by draft) is stops clear answers = subst StopsAtFault (sym (answers.3.0 ∙ sym answers.1)) stops
  answered_stops earlier old new run d (Changed cell read now) is stops clear answers = subst StopsAtFault (sym (answers.3.0 ∙ sym answers.1)) stops

  -- what a core keeps after it has taken the moves of a task's next segment or not, if its run had met no fault
  pub went_stops : (earlier : List Entry) (old new : Option CoreRun) (run : CoreRun) (t : ℕ) (number : Option ℕ) → old ≡ Some run → StopsAtFault old
      → run.state.first_fault ≡ None → AnswersNext p lim earlier old t number new → StopsAtFault new
  went_stops earlier old new run t (Some number) is stops clear answers =
      let had = answers.0 in
      let same : had ≡ run = same_Some had run (sym answers.1 ∙ is) in
      let sound : IsSound p lim had = record { run_is = answers.2.run_is; ends = subst StopsAtFault answers.1 stops } in
      let takes = answers.3.2 in
      let after : IsSound p lim answers.3.0 =
      sound_moves had answers.3.0 t takes.row takes.row.status sound (ap (λ (r : CoreRun). r.state.first_fault) same ∙ clear) takes.there takes.legal takes.journal takes.state in
      subst StopsAtFault (sym answers.3.1) after.ends
  went_stops earlier old new run t None is stops clear answers = subst StopsAtFault (sym (answers.3.0 ∙ sym answers.1)) stops
