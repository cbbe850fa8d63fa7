-- One move more.
use Rattle.std.proofs.Common.{◌≡◌, ◌++◌, List, [], ◌∷◌, ap, ◌∙◌, sym, subst}
use Rattle.seg_journal.specs.declared.journal.End.{End}
use Rattle.seg_journal.specs.declared.journal.Entry.{Entry}
use Rattle.seg_journal.specs.declared.moves.Move.{Move}
use Rattle.twe_base.specs.Limits.{Bounds}
use Rattle.twe_program.specs.Program.{Program}
use Rattle.twe_program.specs.WellFormed.{IsWellFormed}
use Rattle.machine_state.specs.declared.state.State.{State}
use Rattle.machine_state.specs.Legal.{MayMove}
use Rattle.machine_state.specs.Moves.{move_result}
use Rattle.machine_state.specs.Runs.{IsRun, entry_of}
use Rattle.machine_state.proofs.replays.Replayed.{run_more}
use Rattle.state_copies.specs.Lasting.{IsFaultless}
use Rattle.all_runs.specs.declared.found.FoundRun.{FoundRun}
use Rattle.all_runs.specs.Explored.{CanGoOn}

-- the run with one more entry is one
pub run_with_move : (p : Program) (lim : Bounds) (journal longer : List Entry) (st after : State) (mv : Move) (end : End) → IsRun p lim journal st → MayMove st mv
    → (after, end) ≡ move_result p lim st mv → longer ≡ journal ++ record { mv = mv; end = end } ∷ [] → IsRun p lim longer after
run_with_move p lim journal longer st after mv end run may moved is =
    let entries : longer ≡ journal ++ entry_of p lim st mv ∷ [] = is ∙ (λ i. journal ++ record { mv = mv; end = (moved i).1 } ∷ []) in
    subst (λ (s : State). IsRun p lim longer s) (sym (ap (λ (x : State × End). x.0) moved))
    (subst (λ (es : List Entry). IsRun p lim es (move_result p lim st mv).0) (sym entries) (run_more p lim journal st mv run may))

-- a run that can go on has come to a state without a fault
pub faultless : (p : Program) (lim : Bounds) (run : FoundRun) → IsWellFormed p → CanGoOn p lim run → IsFaultless p lim run.state
faultless p lim run well can = record {
  well = well;
  reached = record { journal = run.journal; legal = can.is_run.legal; same = can.is_run.same };
  no_fault = can.unfinished.0;
}
