use Rattle.std.proofs.Common.{Some, refl, sym, ap, subst}
use Rattle.twe_base.specs.Limits.{Bounds, IsWithin}
use Rattle.twe_program.specs.WellFormed.{IsWellFormed}
use Rattle.machine_state.specs.declared.ending.Outcome.TheVariants.{AllDone}
use Rattle.machine_state.specs.declared.state.State.{State}
use Rattle.machine_state.specs.Runs.{AllTasksDone, EachOnce, IsOutcome, counted, state_after}
use Rattle.determinism_laws.specs.AcceptedRuns.{IsAcceptedRun}
use Rattle.flat_sched.specs.RunEnds.{outcome_of}
use Rattle.flat_sched.proofs.RunEnds.{is_outcome}
use Rattle.text_answers.specs.Answers.{AnswersRun}
use Rattle.text_answers.proofs.Outcomes.{has_journal}
use Rattle.text_answers.proofs.running.reply_to_run.Goals as goal

-- the book has what the run has
pub returns-clause-reply : goal.returns-clause-reply
returns-clause-reply c =
    let p = c.args.p in
    let lim = c.args.lim in
    let journal = c.args.run.journal in
    let st = c.args.run.state in
    let ended = outcome_of c.args.run.end in
    let answer = c.in_ok-answer.answer in
    let ran = c.requires.run in
    let is : IsOutcome st ended = is_outcome st c.args.run.end c.requires.end in
    let isolation = c.accepted_runs_are_isolated.ensures in
    let laws = c.each_thing_happens_once.ensures in
    let well = subst IsWellFormed c.p.view_is c.p.invariant in
    let within : IsWithin lim.fuel lim.tasks = subst (λ (b : Bounds). IsWithin b.fuel b.tasks) c.lim.view_is c.lim.invariant in
    let isolated = isolation.isolated p well c.requires.keeps lim journal ran.legal in
    let covered = isolation.covered p well c.requires.keeps lim journal ran.legal in
    let accepted : IsAcceptedRun p lim journal = record { well_formed = well; keeps = c.requires.keeps; legal = ran.legal } in
    let results = c.deterministic_tasks_have_results.ensures p lim journal accepted within.tasks_least in
    let of_main = c.deterministic_mains_have_their_results.ensures p lim journal accepted within.tasks_least in
    let once : IsOutcome st AllDone → EachOnce journal st = λ all. subst (EachOnce journal) (sym ran.same) (laws.once p lim journal well ran.legal (subst AllTasksDone ran.same all.1)) in
    record {
      kept = refl;
      has = has_journal p lim journal st ended ran is once (laws.at_most_once p lim journal well ran.legal) isolated covered results of_main _ refl refl refl (ap Some c.outcome-outcome.ensures);
      answers = subst (λ (s : State). AnswersRun p s (state_after p lim (counted journal)).prints ended answer) ran.same c.in_ok-answer.ensures;
    }
