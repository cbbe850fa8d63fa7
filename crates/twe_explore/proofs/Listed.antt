-- What `twe run` answers is listed.
use Rattle.std.proofs.Common.{◌≡◌, ◌++◌, ℤ, List, length, refl, sym, ap, ◌∙◌, subst}
use Rattle.std.specs.Prelude.{codes, decimal}
use Rattle.std.specs.List.{flat_map}
use Rattle.twe_base.specs.Limits.{Bounds}
use Rattle.twe_program.specs.Program.{Program}
use Rattle.machine_state.specs.declared.ending.Outcome.{Outcome}
use Rattle.machine_state.specs.declared.ending.Outcome.TheVariants.{AllDone}
use Rattle.machine_state.specs.declared.state.State.{State}
use Rattle.machine_state.specs.Runs.{counted, state_after}
use Rattle.flat_sched.specs.declared.ending.WholeRun.{WholeRun}
use Rattle.flat_sched.specs.RunEnds.{outcome_of}
use Rattle.reduction_laws.specs.WaysToEnd.{all_done}
use Rattle.all_runs.specs.AllRuns.{IsFoundWay, ShowsRuns}
use Rattle.all_runs.specs.Explored.{HaveOneResult}
use Rattle.all_runs.proofs.EndedWays.{run_outcome}
use Rattle.all_runs.proofs.Outcomes.{one_outcome}
use Rattle.twe_io.specs.declared.answer.Answer.{Answer}
use Rattle.twe_io.specs.declared.status.Status.TheVariants.{Done}
use Rattle.twe_io.specs.Answers.{on_out}
use Rattle.twe_report.specs.Texts.{cell_line, line, prints_text, result_text}
use Rattle.text_answers.specs.Answers.{AnswersRun}
use Rattle.twe_explore.specs.Answers.{IsAnswerOfOne}

-- states with one result have one text
one_text : (p : Program) (st other : State) → HaveOneResult st other → result_text p st ≡ result_text p other
one_text p st other one =
    λ i. prints_text (one.prints i) ++ (flat_map (cell_line (one.cells i)) p.cells ++ line (codes "tasks " ++ decimal (one.tasks i)))

pub listed_if_done : (p : Program) (lim : Bounds) (ended : List WholeRun) → ShowsRuns p lim ended → (st : State) (prints : List ℤ) (answer : Answer)
    → IsFoundWay ended (all_done st.cells st.prints (length st.tasks)) → AnswersRun p st prints AllDone answer → IsAnswerOfOne p lim ended answer
listed_if_done p lim ended shows st prints answer (at, run, there, so) is =
    let one : HaveOneResult run.state st = record { prints = so.2; cells = so.1; tasks = so.3 } in
    let same : answer ≡ on_out Done (result_text p run.state) = is ∙ ap (on_out Done) (sym (one_text p run.state st one)) in
    let done : outcome_of run.end ≡ AllDone = one_outcome run.state (outcome_of run.end) AllDone (run_outcome run.state run.end (shows.each at run there).end) so.0 in
    (at, run, there, subst (λ (outcome : Outcome). AnswersRun p run.state (state_after p lim (counted run.journal)).prints outcome answer) (sym done) same)
