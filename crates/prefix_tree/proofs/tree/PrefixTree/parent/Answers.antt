-- The step that leads to the node leads from the one right above it.
use Rattle.std.proofs.Common.{◌<◌, List, None, length, rules, sym, ap, subst, ◌∙◌, arith}
use Rattle.std.proofs.lemmas.List.{get_or_default}
use Rattle.prefix_tree.specs.declared.part.Part.{Part}
use Rattle.prefix_tree.specs.Nodes.{IsParent}
use Rattle.prefix_tree.specs.inner.Tables.{Tables}
use Rattle.prefix_tree.proofs.TreeLemmas.{length-paths, none-root, step-IsParent}
use Rattle.prefix_tree.proofs.tree.PrefixTree.parent.Goals as goal

pub index-requires : goal.index-requires
index-requires c =
    let tables : Tables = record { steps = c.self.inside.steps.items; children = c.self.inside.children } in
    let all = length-paths tables in
    let seen = ap length c.self.view_is in
    let there : c.args.n < length c.self.inside.steps.items = omega (arith, c.requires) in
    omega arith

pub returns-in_err-step-clause-root : goal.returns-in_err-step-clause-root
returns-in_err-step-clause-root c =
    let tables : Tables = record { steps = c.self.inside.steps.items; children = c.self.inside.children } in
    let all = length-paths tables in
    let seen = ap length c.self.view_is in
    let there : c.args.n < length tables.steps = omega (arith, c.requires) in
    let none = get_or_default tables.steps c.args.n None c.index.result.now there ∙ sym c.index.ensures ∙ c.in_err-step.was in
    (λ h. none-root tables c.self.invariant c.args.n there none, λ e. search rules)

pub returns-clause-above : goal.returns-clause-above
returns-clause-above c =
    let tables : Tables = record { steps = c.self.inside.steps.items; children = c.self.inside.children } in
    let all = length-paths tables in
    let seen = ap length c.self.view_is in
    let there : c.args.n < length tables.steps = omega (arith, c.requires) in
    let step = get_or_default tables.steps c.args.n None c.index.result.now there ∙ sym c.index.ensures ∙ c.in_ok-step.was in
    subst (λ (nodes : List (List Part)). IsParent nodes c.in_ok-step.step.from c.args.n) c.self.view_is (step-IsParent tables c.self.invariant c.args.n c.in_ok-step.step step)
