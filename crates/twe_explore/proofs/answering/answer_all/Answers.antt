use Rattle.std.proofs.Common.{List, sym, ◌∙◌, subst}
use Rattle.flat_sched.specs.declared.ending.WholeRun.{WholeRun}
use Rattle.twe_io.specs.Answers.{on_out}
use Rattle.twe_explore.specs.Answers.{AreAnswersFor, ExploreDue, results_status}
use Rattle.twe_explore.specs.Texts.{results_text}
use Rattle.twe_explore.proofs.answering.answer_all.Goals as goal

-- the results are listed
pub returns : goal.returns
returns c =
    let found = c.args.found.now in
    let question = c.args.question.now in
    let answers = c.in_ok-answers.answers in
    let given : AreAnswersFor c.args.p.now question.lim found.ended answers =
    subst (λ (runs : List WholeRun). AreAnswersFor c.args.p.now question.lim runs answers) c.as_slice-runs.ensures c.in_ok-answers.ensures in
    let whole = c.is_complete-whole.ensures in
    let lines = c.in_ok-lines.ensures ∙ (λ i. results_text found.states (whole i) (c.as_slice.ensures i)) in
    let status = c.results_status.ensures ∙ (λ i. results_status (whole i) (c.as_slice-runs.ensures i)) in
    subst (ExploreDue question c.args.text.now) (sym (c.on_out.ensures ∙ (λ i. on_out (status i) (lines i))))
    (ExploreDue.listed c.args.p.now found answers c.requires.wanted c.requires.lines c.requires.accepted c.requires.found given)
