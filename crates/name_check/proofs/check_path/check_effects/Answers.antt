use Rattle.std.proofs.Common.{sym}
use Rattle.name_check.specs.Sites.{asks_of_clause}
use Rattle.name_check.proofs.FirstFailures.{each_reported}
use Rattle.name_check.proofs.check_path.check_effects.Goals as goal

pub loop-clause-preserved : goal.loop-clause-preserved
loop-clause-preserved c =
    each_reported asks_of_clause c.args.globals.now c.args.locals.now c.args.clauses.now c.loop-clause.clause-index c.clause-item.result c.loop-clause-test.true (sym c.clause-item.is)
    c.loop-clause.first c.check_clause.new.first _ c.check_clause.ensures c.loop-clause.invariant
