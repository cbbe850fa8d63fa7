-- What holds at the start of a run, and is kept by each legal move, holds after each legal journal.
use Rattle.std.proofs.Common.{◌≡◌, List, [], ◌∷◌, ◌++◌, refl, sym, ap, subst}
use Rattle.std.proofs.lemmas.List.{append_assoc, append-nil}
use Rattle.seg_journal.specs.declared.journal.End.{End}
use Rattle.seg_journal.specs.declared.journal.Entry.{Entry}
use Rattle.seg_journal.specs.declared.moves.Move.{Move}
use Rattle.twe_base.specs.Limits.{Bounds}
use Rattle.twe_program.specs.Program.{Program}
use Rattle.machine_state.specs.declared.state.State.{State}
use Rattle.machine_state.specs.Legal.{MayMove}
use Rattle.machine_state.specs.Moves.{move_result, start_of}
use Rattle.machine_state.specs.Runs.{IsRun, Legal, LegalFrom, entry_of, replayed, state_after}
use Rattle.machine_state.proofs.replays.Replayed.{run_more}

module _ (p : Program) (lim : Bounds) (R : List Entry → State → Type 0) (start : R [] (start_of p lim))
    (step : (before : List Entry) (st : State) (mv : Move) → IsRun p lim before st → MayMove st mv → R before st → R (before ++ entry_of p lim st mv ∷ []) (move_result p lim st mv).0) where
  along : (before entries : List Entry) (st : State) → IsRun p lim before st → LegalFrom p lim st entries → R before st → R (before ++ entries) (replayed p lim st entries)
  along before [] st run legal now = subst (λ (j : List Entry). R j st) (sym (append-nil before)) now
  along before (e ∷ entries) st run legal now =
      let next : State = (move_result p lim st e.mv).0 in
      let entry : entry_of p lim st e.mv ≡ e = ap (λ (end : End). record { mv = e.mv; end = end }) legal.1 in
      let then : IsRun p lim (before ++ e ∷ []) next = subst (λ (x : Entry). IsRun p lim (before ++ x ∷ []) next) entry (run_more p lim before st e.mv run legal.0) in
      let kept : R (before ++ e ∷ []) next = subst (λ (x : Entry). R (before ++ x ∷ []) next) entry (step before st e.mv run legal.0 now) in
      subst (λ (j : List Entry). R j (replayed p lim next entries)) (append_assoc before (e ∷ []) entries) (along (before ++ e ∷ []) entries next then legal.2 kept)

  pub after_all : (journal : List Entry) → Legal p lim journal → R journal (state_after p lim journal)
  after_all journal legal = along [] journal (start_of p lim) (record { legal = tt; same = refl }) legal start
