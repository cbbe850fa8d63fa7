use Rattle.std.proofs.Common.{arith}
use Rattle.text_answers.proofs.Dues.{whole_run}
use Rattle.twe_opt.proofs.top.run_program.Goals as goal

-- a run by several workers
pub returns-else-workers-eq1 : goal.returns-else-workers-eq1
returns-else-workers-eq1 g c =
    let ran = c.run_ahead.ensures in
    whole_run c.args.p.now c.args.asked.now c.run_ahead.result ran.legal ran.state ran.ended ran.end
    (λ few. absurd (c.if-workers-eq1.false (omega (arith, few, c.requires.some))))
