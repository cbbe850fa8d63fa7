-- The paths of the cells so far were added to that of `Console`.
use Rattle.std.proofs.Common.{take}
use Rattle.effect_tree.proofs.CellsLemmas.{IsTreeOfCells}
use Rattle.effect_tree.proofs.growth.tree_of_cells.Given as goal

abbrev pub invariant-loop-cell : goal.invariant-loop-cell
invariant-loop-cell l = IsTreeOfCells l.tree (take l.cell-index l.cells)
