use Rattle.std.proofs.Common.{◌≡◌, List, [], ◌∷◌, ◌++◌, refl, sym, ap, ◌∙◌, subst}
use Rattle.seg_journal.specs.declared.journal.End.{End}
use Rattle.seg_journal.specs.declared.journal.Entry.{Entry}
use Rattle.twe_program.specs.WellFormed.{IsWellFormed}
use Rattle.machine_state.specs.declared.state.State.{State}
use Rattle.machine_state.specs.Legal.{MayMove}
use Rattle.machine_state.specs.Moves.{move_result}
use Rattle.machine_state.specs.Runs.{IsRun, entry_of}
use Rattle.twe_machine.proofs.listing.Listed.{was_listed}
use Rattle.machine_state.proofs.replays.Replayed.{run_more}
use Rattle.twe_machine.proofs.replaying.Replaying.take_move.Goals as goal

pub step-requires-clause-reached : goal.step-requires-clause-reached
step-requires-clause-reached c = let run = c.requires.is_run in record { journal = c.args.self.now.journal; legal = run.legal; same = run.same }

-- the list was that of the state before the move
pub note-requires : goal.note-requires
note-requires c =
    let old = c.args.self.now in
    let run = c.requires.is_run in
    was_listed c.args.p.now c.args.lim old.st c.step.new.st c.args.mv c.task_count-before.result old.enabled (subst IsWellFormed c.p.view_is c.p.invariant)
    (record { journal = old.journal; legal = run.legal; same = run.same }) (c.in_default.ensures.legal.0 refl)
    (ap (λ (x : State × End). x.0) c.in_ok-end.ensures) c.task_count-before.ensures.count c.requires.listing

-- the run goes on by the move
pub returns-clause-goes_on : goal.returns-clause-goes_on
returns-clause-goes_on c =
    let p = c.args.p.now in
    let lim = c.args.lim in
    let st = c.args.self.now.st in
    let mv = c.args.mv in
    let journal = c.args.self.now.journal in
    let may : MayMove st mv = c.in_default.ensures.legal.0 refl in
    let stepped = c.in_ok-end.ensures in
    let state : c.step.new.st ≡ (move_result p lim st mv).0 = ap (λ (x : State × End). x.0) stepped in
    let end : c.in_ok-end.end ≡ (move_result p lim st mv).1 = ap (λ (x : State × End). x.1) stepped in
    let entry : entry_of p lim st mv ≡ record { mv = mv; end = c.in_ok-end.end } = ap (λ (e : End). record { mv = mv; end = e }) (sym end) in
    record {
      is_run = subst (λ (s : State). IsRun p lim c.push.new.self s) (sym state)
          (subst (λ (j : List Entry). IsRun p lim j (move_result p lim st mv).0) (ap (λ (e : Entry). journal ++ e ∷ []) entry ∙ sym c.in_ok-push.ensures.ok)
          (run_more p lim journal st mv c.requires.is_run may));
      listing = c.in_ok-note.ensures;
    }
