use Rattle.std.proofs.Common.{sym}
use Rattle.name_check.specs.Sites.{asks_of_path}
use Rattle.name_check.proofs.FirstFailures.{each_reported}
use Rattle.name_check.proofs.check_path.check_clause.Goals as goal

pub loop-path-preserved : goal.loop-path-preserved
loop-path-preserved c =
    each_reported asks_of_path c.args.globals.now c.args.locals.now c.as_slice-path-items.result.now c.loop-path.path-index c.path-item.result c.loop-path-test.true (sym c.path-item.is)
    c.loop-path.first c.check_path.new.first _ c.check_path.ensures c.loop-path.invariant
