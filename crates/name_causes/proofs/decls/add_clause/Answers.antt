use Rattle.std.proofs.Common.{sym}
use Rattle.name_check.specs.Sites.{asks_of_path}
use Rattle.name_causes.proofs.Listing.{each_asked}
use Rattle.name_causes.proofs.decls.add_clause.Goals as goal

-- one thing more
pub loop-path-preserved : goal.loop-path-preserved
loop-path-preserved c =
    each_asked c.as_slice-path-items.result.now c.loop-path.path-index c.path-item.result c.loop-path-test.true (sym c.path-item.is) c.loop-path.needs c.add_path.new.needs _
    asks_of_path c.args.globals.now c.args.locals.now c.args.returns c.in_ok-add_path.ensures c.loop-path.invariant
