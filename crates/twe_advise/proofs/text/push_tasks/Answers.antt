use Rattle.std.proofs.Common.{◌++◌, ℕ, List, ap, ◌∙◌}
use Rattle.span_profile.specs.Totals.{total_of}
use Rattle.span_profile.specs.declared.totals.TaskTotal.{TaskTotal}
use Rattle.twe_advise.specs.HeldTimes.{held_time}
use Rattle.twe_advise.specs.Texts.{task_row, task_row_of}
use Rattle.twe_advise.proofs.TaskRows.{rows_more}
use Rattle.twe_advise.proofs.text.push_tasks.Goals as goal

pub loop-number-preserved : goal.loop-number-preserved
loop-number-preserved c =
    let text = c.loop-number.text in
    let number = c.loop-number.number in
    let rows = c.args.rows.now in
    let holds = c.args.holds.now in
    rows_more (task_row_of c.args.works.now rows holds) c.args.decls.now number c.index-decls-number.result c.args.text.now text c.push_task.new.text
    c.loop-number-test.true c.index-decls-number.is c.loop-number.invariant
    (c.in_ok-push_task.ensures
    ∙ (ap (λ (t : TaskTotal). text ++ task_row t c.held_time-held.result c.as_bytes.result.now) c.total_of.ensures
    ∙ (ap (λ (h : ℕ). text ++ task_row (total_of number c.args.works.now) h c.as_bytes.result.now) c.held_time-held.ensures
    ∙ ap (λ (l : List ℕ). text ++ task_row (total_of number c.args.works.now) (held_time rows holds number) l) c.as_bytes.ensures)))
