-- The paths of the tables are those of a tree.
use Rattle.std.proofs.Common.{subst}
use Rattle.prefix_tree.specs.Nodes.{IsTreeOfPaths}
use Rattle.prefix_tree.specs.inner.Tables.{Tables}
use Rattle.prefix_tree.proofs.TreeLemmas.{IsTreeOfPaths-paths}
use Rattle.prefix_tree.proofs.tree.PrefixTree.root.Goals as goal

pub returns-clause-tree : goal.returns-clause-tree
returns-clause-tree c =
    let tables : Tables = record { steps = c.self.inside.steps.items; children = c.self.inside.children } in
    subst IsTreeOfPaths c.self.view_is (IsTreeOfPaths-paths tables c.self.invariant)
