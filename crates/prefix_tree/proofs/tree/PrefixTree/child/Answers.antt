-- The map has the node for the step.
use Rattle.std.proofs.Common.{◌∙◌}
use Rattle.prefix_tree.specs.inner.Tables.{Tables}
use Rattle.prefix_tree.proofs.TreeLemmas.{child-matches}
use Rattle.prefix_tree.proofs.tree.PrefixTree.child.Goals as goal

pub returns : goal.returns
returns c =
    let tables : Tables = record { steps = c.self.inside.steps.items; children = c.self.inside.children } in
    child-matches tables c.self.invariant c.args.self.now c.self.view_is (record { from = c.args.from; part = c.args.part }) c.requires c.copied.result (c.copied.ensures ∙ c.get.ensures.value)
