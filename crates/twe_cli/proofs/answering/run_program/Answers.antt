use Rattle.std.proofs.Common.{arith}
use Rattle.text_answers.proofs.Dues.{whole_run}
use Rattle.twe_cli.proofs.answering.run_program.Goals as goal

-- a run by workers; one of them runs lowest first
pub returns-else-workers-eq0 : goal.returns-else-workers-eq0
returns-else-workers-eq0 g c =
    let ran = c.run_on_floor.ensures in
    whole_run c.args.p.now c.args.asked.now c.run_on_floor.result ran.legal ran.state ran.ended ran.end
    (λ few. ran.lone (omega (arith, few, c.if-workers-eq0.false)))
