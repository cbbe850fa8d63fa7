use Rattle.opt_engine.proofs.Committed.{reached_by, steps_is}
use Rattle.opt_engine.proofs.core_run.CoreRun.run_shown.Goals as goal

pub run_mirrored-requires-clause-reached : goal.run_mirrored-requires-clause-reached
run_mirrored-requires-clause-reached c = reached_by c.args.p.now c.args.lim c.args.self.now c.requires.run

pub returns : goal.returns
returns c = steps_is c.args.p.now c.args.lim c.args.self.now _ _ c.in_ok-end.end c.requires.run c.requires.may c.in_ok-end.ensures c.in_ok-push.ensures.ok
