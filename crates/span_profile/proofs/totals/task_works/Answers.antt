use Rattle.span_profile.proofs.TaskTotals.{works_on}
use Rattle.span_profile.proofs.totals.task_works.Goals as goal

pub loop-task-preserved : goal.loop-task-preserved
loop-task-preserved c =
    works_on c.args.fuel c.args.journal.now c.args.rows.now c.loop-task.task c.saturating_sub-taken.result c.index-rows-task.result c.loop-task.works c.push.new.self
    c.in_ok-counts.counts c.as_slice.result.now c.loop-task-test.true c.index-rows-task.is c.loop-task.invariant c.in_ok-counts.ensures.same c.as_slice.ensures
    c.saturating_sub-taken.ensures c.in_ok-push.ensures.ok
