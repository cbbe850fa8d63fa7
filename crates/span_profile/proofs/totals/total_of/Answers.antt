use Rattle.std.proofs.Common.{◌≡◌, ◌∙◌, ap, sym, arith}
use Rattle.std.specs.Prelude.{◌==◌, slice_index_or}
use Rattle.span_profile.specs.Totals.{with_work}
use Rattle.span_profile.specs.declared.totals.TaskTotal.{TaskTotal}
use Rattle.span_profile.specs.declared.totals.TaskWork.{TaskWork}
use Rattle.span_profile.proofs.TaskTotals.{small_more, total_more}
use Rattle.span_profile.proofs.totals.total_of.Goals as goal

pub with_work-total-requires-clause-made : goal.with_work-total-requires-clause-made
with_work-total-requires-clause-made c =
    let few = c.requires.few in
    let so_far = c.loop-task.invariant.made_few in
    let test = c.loop-task-test.true in
    omega (arith, few, so_far, test)

pub with_work-total-requires-clause-work : goal.with_work-total-requires-clause-work
with_work-total-requires-clause-work c =
    let light = c.requires.small c.loop-task.task-index (record { decl = 0; work = 0 }) c.loop-task-test.true in
    let few = c.requires.few in
    let so_far = c.loop-task.invariant.work_small in
    let test = c.loop-task-test.true in
    omega (arith, light, few, so_far, test)

pub loop-task-preserved : goal.loop-task-preserved
loop-task-preserved c =
    let works = c.args.works.now in
    let none : TaskWork = record { decl = 0; work = 0 } in
    let task : TaskWork = slice_index_or works c.loop-task.task-index none in
    let so_far = c.loop-task.invariant in
    let light = c.requires.small c.loop-task.task-index none c.loop-task-test.true in
    let small = small_more (task.decl == c.args.decl) c.loop-task.total task c.loop-task.task-index so_far.made_few so_far.work_small light in
    let now = c.with_work-total.ensures in
    let made = ap (λ (t : TaskTotal). t.made) now in
    let work = ap (λ (t : TaskTotal). t.work) now in
    record {
      same = now ∙ (ap (λ (t : TaskTotal). with_work (task.decl == c.args.decl) t task) so_far.same ∙ sym (total_more c.args.decl works c.loop-task.task-index none c.loop-task-test.true));
      made_few = omega (arith, small, made);
      work_small = omega (arith, small, work);
    }
