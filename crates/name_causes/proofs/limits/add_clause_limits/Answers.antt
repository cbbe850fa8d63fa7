use Rattle.std.proofs.Common.{sym}
use Rattle.name_causes.specs.Others.{needs_of_path}
use Rattle.name_causes.proofs.Listing.{each_more}
use Rattle.name_causes.proofs.limits.add_clause_limits.Goals as goal

-- one thing more
pub loop-path-preserved : goal.loop-path-preserved
loop-path-preserved c =
    each_more c.as_slice-path-items.result.now c.loop-path.path-index c.path-item.result c.loop-path-test.true (sym c.path-item.is) c.loop-path.needs c.add_path_limits.new.needs _
    needs_of_path c.in_ok-add_path_limits.ensures c.loop-path.invariant
