use Rattle.std.proofs.Common.{subst}
use Rattle.twe_program.specs.WellFormed.{IsWellFormed}
use Rattle.floor_crew.proofs.outlook_at_rest.outlook_if_made.Goals as goal

pub bar-requires-clause-reachable : goal.bar-requires-clause-reachable
bar-requires-clause-reachable c = (c.args.p.now, subst IsWellFormed c.p.view_is c.p.invariant, c.requires.reachable)
