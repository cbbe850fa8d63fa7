use Rattle.std.proofs.Common.{sym}
use Rattle.name_check.specs.inner.Elements.{asks_of_elem}
use Rattle.name_causes.proofs.Listing.{each_asked}
use Rattle.name_causes.proofs.decls.add_path.Goals as goal

-- one thing more
pub loop-elem-preserved : goal.loop-elem-preserved
loop-elem-preserved c =
    each_asked c.as_slice-elem-items.result.now c.loop-elem.elem-index c.elem-item.result c.loop-elem-test.true (sym c.elem-item.is) c.loop-elem.needs c.add_elem.new.needs _
    asks_of_elem c.args.globals.now c.args.locals.now c.args.returns c.in_ok-add_elem.ensures c.loop-elem.invariant
