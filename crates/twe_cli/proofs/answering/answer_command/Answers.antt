use Rattle.std.proofs.Common.{subst}
use Rattle.twe_io.specs.Ends.{source}
use Rattle.text_answers.specs.declared.starting.Started.{Started}
use Rattle.text_answers.specs.Starting.{IsStarted}
use Rattle.twe_cli.proofs.answering.answer_command.Goals as goal

-- the reply was at hand
pub returns-in-Answered : goal.returns-in-Answered
returns-in-Answered g c =
    let src = source g.S.Source.left g.S.Source.faults g.S.Source.read_gives in
    subst (λ (s : Started). IsStarted src c.args.cmd.now c.args.src.now c.start_command.new.src s) c.in-Answered.is c.in_ok-started.ensures

-- the number of workers is in its range
pub run_program-requires-clause-few : goal.run_program-requires-clause-few
run_program-requires-clause-few g c =
    let src = source g.S.Source.left g.S.Source.faults g.S.Source.read_gives in
    let is = subst (λ (s : Started). IsStarted src c.args.cmd.now c.args.src.now c.start_command.new.src s) c.in-ToRun.is c.in_ok-started.ensures in
    λ κs fits. is.0.few

-- the program keeps the rules on effects
pub run_program-requires-clause-keeps : goal.run_program-requires-clause-keeps
run_program-requires-clause-keeps g c =
    let src = source g.S.Source.left g.S.Source.faults g.S.Source.read_gives in
    let is = subst (λ (s : Started). IsStarted src c.args.cmd.now c.args.src.now c.start_command.new.src s) c.in-ToRun.is c.in_ok-started.ensures in
    λ κs fits. is.0.keeps

pub answer_run-requires : goal.answer_run-requires
answer_run-requires g c =
    let src = source g.S.Source.left g.S.Source.faults g.S.Source.read_gives in
    let is = subst (λ (s : Started). IsStarted src c.args.cmd.now c.args.src.now c.start_command.new.src s) c.in-ToRun.is c.in_ok-started.ensures in
    record { keeps = is.0.keeps; whole = c.in_ok-run-in-ToRun.ensures }

-- the reply to the run has its cause
pub returns-in_ok-reply-in-ToRun : goal.returns-in_ok-reply-in-ToRun
returns-in_ok-reply-in-ToRun g c =
    let src = source g.S.Source.left g.S.Source.faults g.S.Source.read_gives in
    let is = subst (λ (s : Started). IsStarted src c.args.cmd.now c.args.src.now c.start_command.new.src s) c.in-ToRun.is c.in_ok-started.ensures in
    is.1 c.in_ok-reply-in-ToRun.reply c.in_ok-reply-in-ToRun.ensures
