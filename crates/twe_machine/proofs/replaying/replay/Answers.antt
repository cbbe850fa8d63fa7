use Rattle.std.proofs.Common.{Err}
use Rattle.machine_state.specs.declared.replay_fail.ReplayFail.TheVariants.{Illegal}
use Rattle.machine_state.proofs.replays.Replayed.{never_both, only_legal, first_illegal, same_fail}
use Rattle.twe_machine.proofs.replaying.replay.Goals as goal

-- legal moves are replayed, and a first illegal move is named
pub returns-in-Ok-clause-first_illegal : goal.returns-in-Ok-clause-first_illegal
returns-in-Ok-clause-first_illegal c = λ n why first.
    let replayed = c.in-Ok.ensures.replayed in
    never_both c.args.p.now c.args.lim c.args.moves.now n why (c.in-Ok.field-0-0, replayed.run.legal, replayed.has) first

pub returns-clause-only_legal : goal.returns-clause-only_legal
returns-clause-only_legal c = only_legal c.args.p.now c.args.lim c.args.moves.now (Err c.in-Err.fail) (λ n why is. c.in-Err.ensures.illegal n why (same_fail c.in-Err.fail (Illegal n why) is))

pub returns-clause-first_illegal : goal.returns-clause-first_illegal
returns-clause-first_illegal c = first_illegal c.args.p.now c.args.lim c.args.moves.now (Err c.in-Err.fail) (λ n why is. c.in-Err.ensures.illegal n why (same_fail c.in-Err.fail (Illegal n why) is)) tt
