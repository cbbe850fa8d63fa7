use Rattle.std.proofs.Common.{subst}
use Rattle.twe_base.specs.Limits.{Bounds, IsWithin}
use Rattle.twe_program.specs.Program.{Program}
use Rattle.twe_program.specs.WellFormed.{IsWellFormed}
use Rattle.determinism_laws.specs.AcceptedRuns.{IsAcceptedRun}
use Rattle.twe_explain.proofs.RanTexts.{due_of_run}
use Rattle.twe_explain.proofs.running.explain_accepted.Goals as goal

-- the run was made
pub tell_run-requires : goal.tell_run-requires
tell_run-requires c =
    let ran = c.in_ok-journal.ensures in
    record { legal = ran.legal; same = ran.state }

-- and has what accepted runs have
pub returns : goal.returns
returns c =
    let p = c.args.p.now in
    let lim = c.args.lim in
    let ran = c.in_ok-journal.ensures in
    let journal = c.in_ok-journal.journal in
    let keeps = c.requires.keeps in
    let isolation = c.accepted_runs_are_isolated.ensures in
    let well : IsWellFormed p = subst (λ (q : Program). IsWellFormed q) c.p.view_is c.p.invariant in
    let within : IsWithin lim.fuel lim.tasks = subst (λ (b : Bounds). IsWithin b.fuel b.tasks) c.lim.view_is c.lim.invariant in
    let accepted : IsAcceptedRun p lim journal = record { well_formed = well; keeps = keeps; legal = ran.legal } in
    due_of_run c.args.all c.args.wanted.now c.args.text.now p lim journal c.in_ok-journal.st c.in_ok-answer.answer c.requires
    (record { legal = ran.legal; same = ran.state }) ran.lowest ran.ended ran.once ran.at_most_once
    (isolation.isolated p well keeps lim journal ran.legal) (isolation.covered p well keeps lim journal ran.legal)
    (c.deterministic_tasks_have_results.ensures p lim journal accepted within.tasks_least)
    (c.deterministic_mains_have_their_results.ensures p lim journal accepted within.tasks_least) c.in_ok-answer.ensures
