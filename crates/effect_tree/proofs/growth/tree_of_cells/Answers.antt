-- The root has the empty path, `Console` comes below it, and each cell adds what it declares.
use Rattle.std.proofs.Common.{◌≡◌, length, ap, arith}
use Rattle.effect_tree.proofs.CellsLemmas.{cells-more, cells-none, cells-all}
use Rattle.effect_tree.proofs.growth.tree_of_cells.Goals as goal

pub child_or_new-requires : goal.child_or_new-requires
child_or_new-requires c = let one = ap length c.in_ok-tree.ensures in omega arith

pub loop-cell-init : goal.loop-cell-init
loop-cell-init c = cells-none c.in_ok-tree.tree _ c.in_ok-tree.ensures c.in_ok-child_or_new.ensures.grows

pub loop-cell-preserved : goal.loop-cell-preserved
loop-cell-preserved c =
    cells-more c.loop-cell.tree _ c.args.cells.now c.loop-cell.cell-index c.cell-item.result c.loop-cell-test.true c.cell-item.is c.loop-cell.invariant c.in_ok-add_cell.ensures

pub returns : goal.returns
returns c =
    let all : c.loop-cell.cell-index ≡ length c.args.cells.now = omega arith in
    cells-all c.loop-cell.tree c.args.cells.now c.loop-cell.cell-index all c.loop-cell.invariant
