use Rattle.std.proofs.Common.{◌≡◌, sym, ap, ◌∙◌, subst}
use Rattle.twe_program.specs.Program.{Program}
use Rattle.twe_rounds.specs.Crews.{CrewRun}
use Rattle.opt_crew.specs.Keeping.{IsSound}
use Rattle.opt_crew.proofs.QuietSteps.{grows_kept, round_kept}
use Rattle.opt_crew.proofs.crew.OptCrew.round.Goals as goal

-- what the round does to the run it does to the crew
pub returns-clause-ok : goal.returns-clause-ok
returns-clause-ok g c =
    let crew = c.self.inside in
    let old = c.in_ok-run.run' in
    let new = c.in_ok-after.after in
    let prog : c.args.p.now ≡ crew.prog.value = c.requires ∙ sym (ap (λ (seen : CrewRun). seen.prog) c.self.view_is) in
    round_kept crew.prog.value crew.lim crew.workers c.args.self.now crew.run old new
    (sym c.take.ensures.value ∙ c.in_ok-run.ensures.ok_part) c.self.invariant.2 c.self.view_is
    (subst (λ (p : Program). IsSound p crew.lim new) prog c.in_ok-after.ensures.sound)
    c.in_ok-after.ensures.begins (λ one unfinished. c.in_ok-after.ensures.longer unfinished)

pub returns-clause-longer : goal.returns-clause-longer
returns-clause-longer g c =
    let crew = c.self.inside in
    grows_kept crew.prog.value crew.lim crew.workers c.args.self.now crew.run c.in_ok-run.run' c.in_ok-after.after
    (sym c.take.ensures.value ∙ c.in_ok-run.ensures.ok_part) c.self.invariant.2 c.self.view_is c.in_ok-after.ensures.longer
