use Rattle.opt_engine.proofs.Committed.{steps_is}
use Rattle.opt_engine.proofs.core_run.CoreRun.take.Goals as goal

pub returns : goal.returns
returns c = steps_is c.args.p.now c.args.lim c.args.self.now _ _ c.in_ok-end.end c.requires.run c.requires.legal c.in_ok-end.ensures c.in_ok-push.ensures.ok
