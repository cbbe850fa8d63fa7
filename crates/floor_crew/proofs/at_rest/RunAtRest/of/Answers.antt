use Rattle.flat_sched.proofs.HeldUp.{linked}
use Rattle.floor_crew.proofs.StillRuns.{reached}
use Rattle.floor_crew.proofs.at_rest.RunAtRest.of.Goals as goal

pub of-requires : goal.of-requires
of-requires c =
    let rest = c.args.rest in
    linked rest.state (c.links_agree.ensures c.args.p.now rest.state (c.args.lim, reached c.args.p.now c.args.lim rest.journal rest.state c.requires))
