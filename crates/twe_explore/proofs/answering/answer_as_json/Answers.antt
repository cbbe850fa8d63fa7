use Rattle.std.proofs.Common.{◌≡◌, List, length, sym, ap, ◌∙◌, subst}
use Rattle.flat_sched.specs.declared.ending.WholeRun.{WholeRun}
use Rattle.twe_io.specs.declared.answer.Answer.{Answer}
use Rattle.twe_io.specs.Answers.{on_out}
use Rattle.twe_explore.specs.Answers.{AreAnswersFor, ExploreDue, is_complete, results_status}
use Rattle.twe_explore.specs.Json.{IsJsonLine, explored_data, results_data}
use Rattle.twe_explore.proofs.answering.answer_as_json.Goals as goal

-- each run has an answer
pub json_line-requires : goal.json_line-requires
json_line-requires c = ap length c.as_slice.ensures ∙ c.in_ok-answers.ensures.count

-- the results are listed as JSON
pub returns : goal.returns
returns c =
    let found = c.args.found.now in
    let question = c.args.question.now in
    let answers = c.in_ok-answers.answers in
    let given : AreAnswersFor c.args.p.now question.lim found.ended answers =
    subst (λ (runs : List WholeRun). AreAnswersFor c.args.p.now question.lim runs answers) c.as_slice-runs.ensures c.in_ok-answers.ensures in
    let whole = c.is_complete-whole.ensures in
    let line : IsJsonLine (explored_data (is_complete found.extent) (results_data question.lim found.ended answers) found.states) c.in_ok-line.line =
    subst (λ d. IsJsonLine d c.in_ok-line.line)
    (λ i. explored_data (whole i) (results_data question.lim (c.as_slice-runs.ensures i) (c.as_slice.ensures i)) found.states) c.in_ok-line.ensures in
    let status = c.results_status.ensures ∙ (λ i. results_status (whole i) (c.as_slice-runs.ensures i)) in
    subst (ExploreDue question c.args.text.now) (sym (c.on_out.ensures ∙ (λ i. on_out (status i) c.in_ok-line.line)))
    (ExploreDue.listed_as_json c.args.p.now found answers c.in_ok-line.line c.requires.wanted c.requires.json c.requires.accepted c.requires.found given line)
