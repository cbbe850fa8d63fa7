use Rattle.std.proofs.Common.{ap, ◌∙◌}
use Rattle.machine_state.specs.declared.state.State.{State}
use Rattle.machine_state.specs.Moves.{move_result}
use Rattle.all_runs.proofs.Successors.{run_with_move}
use Rattle.all_runs.proofs.successor.with_move.Goals as goal

pub returns-clause-is_run : goal.returns-clause-is_run
returns-clause-is_run c =
    let p = c.args.p.now in
    let run = c.args.run.now in
    run_with_move p c.args.lim run.journal c.in_ok-journal.journal run.state c.step.new.st c.args.mv c.in_ok-end.end c.requires.goes_on.is_run c.requires.legal
    (c.in_ok-end.ensures ∙ ap (λ (s : State). move_result p c.args.lim s c.args.mv) c.in_ok-state.ensures) c.in_ok-journal.ensures
