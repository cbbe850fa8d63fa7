use Rattle.std.proofs.Common.{◌≡◌, sym, ap, ◌∙◌, subst}
use Rattle.twe_program.specs.Program.{Program}
use Rattle.twe_rounds.specs.Crews.{CrewRun}
use Rattle.opt_crew.specs.Stepping.{StepsRun}
use Rattle.opt_crew.proofs.QuietSteps.{quiet_kept}
use Rattle.opt_crew.proofs.crew.OptCrew.quiet_step.Goals as goal

-- the step of the run is a step of the crew
pub returns-clause-ok : goal.returns-clause-ok
returns-clause-ok c =
    let crew = c.self.inside in
    let old = c.in_ok-run.run' in
    let new = c.step_quietly.new.run in
    let prog : c.args.p.now ≡ crew.prog.value = c.requires ∙ sym (ap (λ (seen : CrewRun). seen.prog) c.self.view_is) in
    quiet_kept crew.prog.value crew.lim crew.workers c.args.self.now crew.run old new c.in_ok-end.end
    (sym c.take.ensures.value ∙ c.in_ok-run.ensures.ok_part) c.self.invariant.2 c.self.view_is
    (subst (λ (p : Program). StepsRun p crew.lim old new c.in_ok-end.end) prog c.in_ok-end.ensures.steps)
