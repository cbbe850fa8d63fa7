use Rattle.std.proofs.Common.{sym}
use Rattle.name_causes.specs.Others.{needs_of_clause}
use Rattle.name_causes.proofs.Listing.{each_more}
use Rattle.name_causes.proofs.limits.add_effect_limits.Goals as goal

-- one thing more
pub loop-clause-preserved : goal.loop-clause-preserved
loop-clause-preserved c =
    each_more c.args.clauses.now c.loop-clause.clause-index c.clause-item.result c.loop-clause-test.true (sym c.clause-item.is) c.loop-clause.needs c.add_clause_limits.new.needs _
    needs_of_clause c.in_ok-add_clause_limits.ensures c.loop-clause.invariant
