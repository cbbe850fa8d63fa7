-- There are as many paths as steps.
use Rattle.std.proofs.Common.{length, ap, subst, arith}
use Rattle.prefix_tree.specs.Nodes.{IsTreeOfPaths}
use Rattle.prefix_tree.specs.inner.Tables.{Tables}
use Rattle.prefix_tree.proofs.TreeLemmas.{length-paths, IsTreeOfPaths-paths}
use Rattle.prefix_tree.proofs.tree.PrefixTree.len.Goals as goal

pub returns-clause-count : goal.returns-clause-count
returns-clause-count c =
    let tables : Tables = record { steps = c.self.inside.steps.items; children = c.self.inside.children } in
    let all = length-paths tables in
    let seen = ap length c.self.view_is in
    omega (arith, c.len.ensures)

pub returns-clause-tree : goal.returns-clause-tree
returns-clause-tree c =
    let tables : Tables = record { steps = c.self.inside.steps.items; children = c.self.inside.children } in
    subst IsTreeOfPaths c.self.view_is (IsTreeOfPaths-paths tables c.self.invariant)
