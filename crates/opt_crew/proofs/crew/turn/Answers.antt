use Rattle.opt_crew.proofs.Lending.{kept_sound, still_kept}
use Rattle.opt_crew.proofs.crew.turn.Goals as goal

-- all go on from where the single worker has left the run
pub together-requires-clause-keeps : goal.together-requires-clause-keeps
together-requires-clause-keeps g c κs within =
    still_kept c.args.setup.now.p.now c.args.setup.now.lim c.in_ok-after.after
    (kept_sound c.args.setup.now.p.now c.args.setup.now.lim c.args.run.journal c.in_ok-after.after c.in_ok-after.ensures)
