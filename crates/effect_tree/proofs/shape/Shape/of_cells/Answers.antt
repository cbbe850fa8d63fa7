-- The nodes by their elements are those that the cells give.
use Rattle.effect_tree.proofs.CellsLemmas.{cells-elems}
use Rattle.effect_tree.proofs.PartPaths.{IsTreeOfPaths-elems}
use Rattle.effect_tree.proofs.shape.Shape.of_cells.Goals as goal

pub invariant_of-result : goal.invariant_of-result
invariant_of-result c = (c.in_ok-below.ensures.tree, c.in_ok-below.ensures.children)

pub returns-clause-exact : goal.returns-clause-exact
returns-clause-exact c = cells-elems c.in_ok-tree.tree c.args.cells.now c.in_ok-tree.ensures

pub returns-clause-tree : goal.returns-clause-tree
returns-clause-tree c = IsTreeOfPaths-elems c.in_ok-tree.tree c.in_ok-below.ensures.tree
