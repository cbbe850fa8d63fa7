use Rattle.std.proofs.Common.{subst}
use Rattle.twe_program.specs.WellFormed.{IsWellFormed}
use Rattle.opt_engine.proofs.next_moves.is_free.Goals as goal

pub bar-requires-clause-reachable : goal.bar-requires-clause-reachable
bar-requires-clause-reachable c = (c.args.p.now, subst IsWellFormed c.p.view_is c.p.invariant, c.requires.reached)
