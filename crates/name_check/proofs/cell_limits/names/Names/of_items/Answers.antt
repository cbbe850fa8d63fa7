-- The names of one item more are known, and those before stay so.
use Rattle.std.specs.Prelude.{codes}
use Rattle.name_check.proofs.cell_limits.Known.{known-item}
use Rattle.name_check.proofs.cell_limits.names.Names.of_items.Goals as goal

pub loop-item-preserved : goal.loop-item-preserved
loop-item-preserved c =
    let loop = c.loop-item in record {
      console = c.in_ok-add_item.ensures.keeps (codes "Console") loop.invariant.console;
      cells = known-item loop.names c.add_item.new.self c.args.items.now loop.item-index c.item-item.result c.loop-item-test.true c.item-item.is c.in_ok-add_item.ensures.keeps loop.invariant.cells c.in_ok-add_item.ensures.known;
    }
