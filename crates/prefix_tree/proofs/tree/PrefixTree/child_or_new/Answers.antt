-- If a step leads to a node, nothing is added. Else it leads to the new node, which comes after the others.
use Rattle.std.proofs.Common.{◌≡◌, List, [], ◌∷◌, ◌++◌, length, length-append, Some, None, sym, ap, subst, ◌∙◌, arith}
use Rattle.std.proofs.Math.Seq.{get_or-append_seam}
use Rattle.std.proofs.lemmas.Grind.{common_steps}
use Rattle.std.specs.HashMap.{get}
use Rattle.prefix_tree.specs.declared.part.Part.{Part}
use Rattle.prefix_tree.specs.declared.step.Step.{Step}
use Rattle.prefix_tree.specs.Nodes.{path_of}
use Rattle.prefix_tree.specs.Growth.{Grows}
use Rattle.prefix_tree.specs.inner.Same.{step_eq}
use Rattle.prefix_tree.specs.inner.Tables.{Tables}
use Rattle.prefix_tree.proofs.TreeLemmas.{length-paths, child-matches, paths-added}
use Rattle.prefix_tree.proofs.AddLemmas.{IsTree-added}
use Rattle.prefix_tree.proofs.GrowthLemmas.{Grows-none, Grows-pushed}
use Rattle.prefix_tree.proofs.tree.PrefixTree.child_or_new.Goals as goal

pub invariant_of-self-in-Vacant : goal.invariant_of-self-in-Vacant
invariant_of-self-in-Vacant c =
    let tables : Tables = record { steps = c.self.inside.steps.items; children = c.self.inside.children } in
    let step : Step = record { from = c.args.from; part = c.args.part } in
    let all = length-paths tables in
    let seen = ap length c.self.view_is in
    let number : c.len-number.result ≡ length tables.steps = omega (arith, c.len-number.ensures) in
    let below = c.self.invariant.numbered in
    let end : c.push.new.self.items ≡ tables.steps ++ Some step ∷ [] = grind arith in
    let absent : get step_eq tables.children step ≡ None = grind (arith, common_steps) in
    IsTree-added tables _ step c.self.invariant (omega (arith, c.requires)) absent (omega (arith, c.if-number.false)) (record {
      steps = end;
      map = λ t. grind (arith, common_steps, number);
    })

pub returns-in-Occupied-clause-there : goal.returns-in-Occupied-clause-there
returns-in-Occupied-clause-there c =
    let tables : Tables = record { steps = c.self.inside.steps.items; children = c.self.inside.children } in
    let step : Step = record { from = c.args.from; part = c.args.part } in
    let value : Some c.get.result.now ≡ get step_eq tables.children step = grind (arith, common_steps) in
    let found = child-matches tables c.self.invariant c.args.self.now c.self.view_is step c.requires (Some c.get.result.now) value in
    let same = ap length c.self.view_is in
    omega (arith, found.0)

pub returns-in-Occupied-clause-path : goal.returns-in-Occupied-clause-path
returns-in-Occupied-clause-path c =
    let tables : Tables = record { steps = c.self.inside.steps.items; children = c.self.inside.children } in
    let step : Step = record { from = c.args.from; part = c.args.part } in
    let value : Some c.get.result.now ≡ get step_eq tables.children step = grind (arith, common_steps) in
    let found = child-matches tables c.self.invariant c.args.self.now c.self.view_is step c.requires (Some c.get.result.now) value in
    ap (λ (nodes : List (List Part)). path_of nodes c.get.result.now) c.self.view_is ∙ found.1

pub returns-in-Occupied-clause-grows : goal.returns-in-Occupied-clause-grows
returns-in-Occupied-clause-grows c =
    let tables : Tables = record { steps = c.self.inside.steps.items; children = c.self.inside.children } in
    let step : Step = record { from = c.args.from; part = c.args.part } in
    let value : Some c.get.result.now ≡ get step_eq tables.children step = grind (arith, common_steps) in
    let found = child-matches tables c.self.invariant c.args.self.now c.self.view_is step c.requires (Some c.get.result.now) value in
    subst (λ (nodes : List (List Part)). Grows c.args.self.now nodes (λ path. path ≡ path_of c.args.self.now c.args.from ++ c.args.part ∷ [])) (sym c.self.view_is)
    (Grows-none c.args.self.now _ (λ path e. (c.get.result.now, found.0, found.1 ∙ sym e)))

pub returns-in_ok-push-in-Vacant-clause-there : goal.returns-in_ok-push-in-Vacant-clause-there
returns-in_ok-push-in-Vacant-clause-there c =
    let tables : Tables = record { steps = c.self.inside.steps.items; children = c.self.inside.children } in
    let end : c.push.new.self.items ≡ tables.steps ++ Some (record { from = c.args.from; part = c.args.part }) ∷ [] = grind arith in
    let nodes = paths-added tables c.args.self.now c.self.view_is _ c.push.new.self.items end in
    let all = length-paths tables in
    let seen = ap length c.self.view_is in
    let number : c.len-number.result ≡ length c.args.self.now = omega (arith, c.len-number.ensures) in
    let one = ap length nodes ∙ length-append c.args.self.now _ in
    omega arith

pub returns-in_ok-push-in-Vacant-clause-path : goal.returns-in_ok-push-in-Vacant-clause-path
returns-in_ok-push-in-Vacant-clause-path c =
    let tables : Tables = record { steps = c.self.inside.steps.items; children = c.self.inside.children } in
    let end : c.push.new.self.items ≡ tables.steps ++ Some (record { from = c.args.from; part = c.args.part }) ∷ [] = grind arith in
    let nodes = paths-added tables c.args.self.now c.self.view_is _ c.push.new.self.items end in
    let all = length-paths tables in
    let seen = ap length c.self.view_is in
    let number : c.len-number.result ≡ length c.args.self.now = omega (arith, c.len-number.ensures) in
    grind (arith, nodes, number, get_or-append_seam c.args.self.now (path_of c.args.self.now c.args.from ++ c.args.part ∷ []) [] [])

pub returns-in_ok-push-in-Vacant-clause-grows : goal.returns-in_ok-push-in-Vacant-clause-grows
returns-in_ok-push-in-Vacant-clause-grows c =
    let tables : Tables = record { steps = c.self.inside.steps.items; children = c.self.inside.children } in
    let end : c.push.new.self.items ≡ tables.steps ++ Some (record { from = c.args.from; part = c.args.part }) ∷ [] = grind arith in
    let nodes = paths-added tables c.args.self.now c.self.view_is _ c.push.new.self.items end in
    Grows-pushed c.args.self.now _ _ nodes

pub returns-in_ok-push-in-Vacant-clause-one : goal.returns-in_ok-push-in-Vacant-clause-one
returns-in_ok-push-in-Vacant-clause-one c =
    let tables : Tables = record { steps = c.self.inside.steps.items; children = c.self.inside.children } in
    let end : c.push.new.self.items ≡ tables.steps ++ Some (record { from = c.args.from; part = c.args.part }) ∷ [] = grind arith in
    let nodes = paths-added tables c.args.self.now c.self.view_is _ c.push.new.self.items end in
    let one = ap length nodes ∙ length-append c.args.self.now _ in
    omega arith
