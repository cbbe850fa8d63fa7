use Rattle.std.proofs.Common.{◌≤◌, ℕ, sym, subst}
use Rattle.twe_io.specs.Ends.{source}
use Rattle.text_answers.specs.declared.starting.Started.{Started}
use Rattle.text_answers.specs.Starting.{IsStarted}
use Rattle.text_answers.proofs.Dues.{as_many}
use Rattle.twe_opt.proofs.top.answer_command.Goals as goal

-- the reply was at hand
pub returns-in-Answered : goal.returns-in-Answered
returns-in-Answered g c =
    let src = source g.S.Source.left g.S.Source.faults g.S.Source.read_gives in
    subst (λ (s : Started). IsStarted src c.args.cmd.now c.args.src.now c.start_command.new.src s) c.in-Answered.is c.in_ok-started.ensures

-- there is a worker
pub run_program-requires-clause-some : goal.run_program-requires-clause-some
run_program-requires-clause-some g c =
    let src = source g.S.Source.left g.S.Source.faults g.S.Source.read_gives in
    let is = subst (λ (s : Started). IsStarted src c.args.cmd.now c.args.src.now c.start_command.new.src s) c.in-ToRun.is c.in_ok-started.ensures in
    λ κs fits. subst (λ (n : ℕ). 1 ≤ n) (sym (as_many c.args.cmd.now c.in-ToRun.asked is.0.asks)) c.requires.some

pub run_program-requires-clause-few : goal.run_program-requires-clause-few
run_program-requires-clause-few g c =
    let src = source g.S.Source.left g.S.Source.faults g.S.Source.read_gives in
    let is = subst (λ (s : Started). IsStarted src c.args.cmd.now c.args.src.now c.start_command.new.src s) c.in-ToRun.is c.in_ok-started.ensures in
    λ κs fits. is.0.few

-- the run is the one that the command asks for
pub answer_run-requires : goal.answer_run-requires
answer_run-requires g c =
    let src = source g.S.Source.left g.S.Source.faults g.S.Source.read_gives in
    let is = subst (λ (s : Started). IsStarted src c.args.cmd.now c.args.src.now c.start_command.new.src s) c.in-ToRun.is c.in_ok-started.ensures in
    record { keeps = is.0.keeps; whole = c.in_ok-run-in-ToRun.ensures }

-- the reply to it has its cause
pub returns-in_ok-reply-in-ToRun : goal.returns-in_ok-reply-in-ToRun
returns-in_ok-reply-in-ToRun g c =
    let src = source g.S.Source.left g.S.Source.faults g.S.Source.read_gives in
    let is = subst (λ (s : Started). IsStarted src c.args.cmd.now c.args.src.now c.start_command.new.src s) c.in-ToRun.is c.in_ok-started.ensures in
    is.1 c.in_ok-reply-in-ToRun.reply c.in_ok-reply-in-ToRun.ensures
