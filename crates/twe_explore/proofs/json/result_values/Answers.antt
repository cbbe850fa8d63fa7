use Rattle.std.proofs.Common.{◌≡◌, ◌<◌, ◌+◌, ap, arith, drop, length, sym, ◌∙◌}
use Rattle.serde_json.specs.View.{view}
use Rattle.flat_sched.specs.declared.ending.WholeRun.{WholeRun}
use Rattle.twe_report.specs.Texts.{journal_part_text}
use Rattle.twe_explore.specs.Json.{result_data, results_data}
use Rattle.twe_explore.proofs.OneResultMore.{moved_over, results_left}
use Rattle.twe_explore.proofs.json.result_values.Goals as goal

-- one more result is put to those so far
pub loop-at-preserved : goal.loop-at-preserved
loop-at-preserved c =
    let lim = c.args.lim in
    let runs = c.args.runs.now in
    let answers = c.args.answers.now in
    let at = c.loop-at.at in
    let run = c.index-runs-at.result in
    let answer = c.index-answers-at.result in
    let next = result_data answer (journal_part_text lim run.journal) in
    let below : at < length runs = omega (arith, c.loop-at-test.true, c.loop-at.auto.at-end) in
    let also : at < length answers = omega (arith, below, c.requires) in
    let is : view c.in_ok-result_value.field-0 ≡ next =
    c.in_ok-result_value.ensures ∙ (ap (result_data answer) (c.as_slice.ensures ∙ c.in_ok-journal.ensures)
    ∙ ap (λ (r : WholeRun). result_data answer (journal_part_text lim r.journal)) (sym c.index-runs-at.is)) in
    moved_over view c.loop-at.values.items c.push.new.self.items c.in_ok-result_value.field-0 next
    (results_data lim (drop (at + 1) runs) (drop (at + 1) answers)) (results_data lim runs answers)
    (results_data lim (drop at runs) (drop at answers)) c.in_ok-push.ensures.items is
    (results_left lim runs answers at run answer below also c.index-runs-at.is c.index-answers-at.is) c.loop-at.invariant
