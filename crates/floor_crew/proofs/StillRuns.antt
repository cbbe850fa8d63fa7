-- A run at rest: its start, and moves that are taken of it.
use Rattle.std.proofs.Common.{◌≡◌, ◌++◌, ◌∷◌, [], List, refl, sym, ap, subst, ◌∙◌}
use Rattle.seg_journal.specs.declared.journal.End.{End}
use Rattle.seg_journal.specs.declared.journal.Entry.{Entry}
use Rattle.seg_journal.specs.declared.moves.Move.{Move}
use Rattle.twe_base.specs.Limits.{Bounds}
use Rattle.twe_program.specs.Program.{Program}
use Rattle.machine_state.specs.declared.state.State.{State}
use Rattle.machine_state.specs.Legal.{MayMove}
use Rattle.twe_machine.specs.Listings.{IsListing}
use Rattle.machine_state.specs.Moves.{move_result, start_of}
use Rattle.machine_state.specs.Runs.{IsReached, IsRun, entry_of}
use Rattle.machine_state.proofs.replays.Replayed.{run_more}
use Rattle.floor_crew.specs.declared.at_rest.RunAtRest.{RunAtRest}
use Rattle.floor_crew.specs.inner.GoingOn.{IsSound}

pub reached : (p : Program) (lim : Bounds) (journal : List Entry) (st : State) → IsRun p lim journal st → IsReached p lim st
reached p lim journal st run = record { journal = journal; legal = run.legal; same = run.same }

-- the journal has one entry more, that of the move
pub longer_by_entry : (p : Program) (lim : Bounds) (journal longer : List Entry) (st after : State) (mv : Move) (end : End)
    → (after, end) ≡ move_result p lim st mv → longer ≡ journal ++ record { mv = mv; end = end } ∷ [] → longer ≡ journal ++ entry_of p lim st mv ∷ []
longer_by_entry p lim journal longer st after mv end moved pushed =
    pushed ∙ ap (λ (e : End). journal ++ record { mv = mv; end = e } ∷ []) (ap (λ (x : State × End). x.1) moved)

-- a legal move was taken
pub run_after : (p : Program) (lim : Bounds) (journal longer : List Entry) (st after : State) (mv : Move) (end : End) → IsRun p lim journal st → MayMove st mv
    → (after, end) ≡ move_result p lim st mv → longer ≡ journal ++ record { mv = mv; end = end } ∷ [] → IsRun p lim longer after
run_after p lim journal longer st after mv end run may moved pushed =
    let state : after ≡ (move_result p lim st mv).0 = ap (λ (x : State × End). x.0) moved in
    let whole = longer_by_entry p lim journal longer st after mv end moved pushed in
    subst (λ (x : List Entry × State). IsRun p lim x.0 x.1) (λ i. (sym whole i, sym state i)) (run_more p lim journal st mv run may)

-- a run that has not begun is sound
pub begins_sound : (p : Program) (lim : Bounds) (run : RunAtRest) → run.rest.journal ≡ [] → run.rest.state ≡ start_of p lim → IsListing (start_of p lim) run.enabled → IsSound p lim run
begins_sound p lim run journal state listing =
    let first : IsRun p lim [] (start_of p lim) = record { legal = tt; same = refl } in
    record {
      run_is = subst (λ (x : List Entry × State). IsRun p lim x.0 x.1) (λ i. (sym journal i, sym state i)) first;
      listing = subst (λ (st : State). IsListing st run.enabled) (sym state) listing;
    }
