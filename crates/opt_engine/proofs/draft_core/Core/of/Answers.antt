use Rattle.flat_sched.proofs.HeldUp.{linked}
use Rattle.opt_engine.proofs.Committed.{reached_by}
use Rattle.opt_engine.proofs.draft_core.Core.of.Goals as goal

pub of-requires : goal.of-requires
of-requires g c =
    let run = c.args.run in
    linked run.state (c.links_agree.ensures g.N.RoundName.prog run.state (g.N.RoundName.lim, reached_by g.N.RoundName.prog g.N.RoundName.lim run c.requires.goes_on.run_is))
