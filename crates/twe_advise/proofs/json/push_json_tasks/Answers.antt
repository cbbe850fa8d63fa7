use Rattle.std.proofs.Common.{◌++◌, ℕ, List, ap, ◌∙◌, append_assoc}
use Rattle.span_profile.specs.Totals.{total_of}
use Rattle.span_profile.specs.declared.totals.TaskTotal.{TaskTotal}
use Rattle.twe_advise.specs.HeldTimes.{held_time}
use Rattle.twe_advise.specs.Json.{comma_before, json_task, json_task_of}
use Rattle.twe_advise.proofs.TaskRows.{rows_more}
use Rattle.twe_advise.proofs.json.push_json_tasks.Goals as goal

pub loop-number-preserved : goal.loop-number-preserved
loop-number-preserved c =
    let number = c.loop-number.number in
    let works = c.args.works.now in
    let rows = c.args.rows.now in
    let holds = c.args.holds.now in
    let held = held_time rows holds number in
    let name = c.index-decls-number.result.name in
    let comma = c.push_comma.new.text in
    rows_more (json_task_of works rows holds) c.args.decls.now number c.index-decls-number.result c.args.text.now c.loop-number.text c.push_json_task.new.text
    c.loop-number-test.true c.index-decls-number.is c.loop-number.invariant
    (c.in_ok-push_json_task.ensures
    ∙ (ap (λ (t : TaskTotal). comma ++ json_task t c.held_time-held.result c.as_bytes.result.now) c.total_of.ensures
    ∙ (ap (λ (h : ℕ). comma ++ json_task (total_of number works) h c.as_bytes.result.now) c.held_time-held.ensures
    ∙ (ap (λ (l : List ℕ). comma ++ json_task (total_of number works) held l) c.as_bytes.ensures
    ∙ (ap (λ (l : List ℕ). l ++ json_task (total_of number works) held name) c.in_ok-push_comma.ensures
    ∙ append_assoc c.loop-number.text (comma_before number) (json_task (total_of number works) held name))))))
