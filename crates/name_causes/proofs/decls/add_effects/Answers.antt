use Rattle.std.proofs.Common.{sym}
use Rattle.name_check.specs.Sites.{asks_of_clause}
use Rattle.name_causes.proofs.Listing.{each_asked}
use Rattle.name_causes.proofs.decls.add_effects.Goals as goal

-- one thing more
pub loop-clause-preserved : goal.loop-clause-preserved
loop-clause-preserved c =
    each_asked c.args.clauses.now c.loop-clause.clause-index c.clause-item.result c.loop-clause-test.true (sym c.clause-item.is) c.loop-clause.needs c.add_clause.new.needs _
    asks_of_clause c.args.globals.now c.args.locals.now c.args.returns c.in_ok-add_clause.ensures c.loop-clause.invariant
