use Rattle.task_floor.proofs.steps.Laid.{unmade_more}
use Rattle.task_floor.proofs.laying.add_unmade.Goals as goal

pub loop-i-preserved : goal.loop-i-preserved
loop-i-preserved c =
    unmade_more c.loop-i.words c.push_all.new.self _ c.args.count c.loop-i.i c.loop-i-test.true c.in_ok-push_all.ensures.ok c.loop-i.invariant
