-- No node lies right above the root, so the lists begin without numbers.
use Rattle.std.proofs.Common.{◌≡◌, ℕ, [], length, replicate, ap, subst, ◌∙◌, arith}
use Rattle.effect_tree.specs.inner.Children.{items_of, HasChildrenBelow}
use Rattle.effect_tree.proofs.ChildrenLemmas.{children-none}
use Rattle.effect_tree.proofs.children.children.Goals as goal

pub loop-n-init : goal.loop-n-init
loop-n-init c =
    let tree = c.len-count.ensures.tree in
    let some = tree.some in
    record {
      inner = omega arith;
      within = omega (arith, c.len-count.ensures.count);
      before = children-none c.args.tree.now tree (items_of c.in_ok-lists.lists) (c.in_ok-lists.ensures ∙ ap (λ (n : ℕ). replicate n []) c.len-count.ensures.count);
    }

pub put_below-requires-clause-there : goal.put_below-requires-clause-there
put_below-requires-clause-there c = omega (arith, c.len-count.ensures.count, c.loop-n-test.true)

pub loop-n-preserved : goal.loop-n-preserved
loop-n-preserved c =
    let inner = c.loop-n.invariant.inner in
    record {
      inner = omega arith;
      within = omega (arith, c.loop-n-test.true);
      before = c.in_ok-put_below.ensures;
    }

pub returns-clause-children : goal.returns-clause-children
returns-clause-children c =
    let within = c.loop-n.invariant.within in
    let all : c.loop-n.n ≡ length c.args.tree.now = omega (arith, c.len-count.ensures.count, c.loop-n-test.false) in
    subst (λ (n : ℕ). HasChildrenBelow c.args.tree.now (items_of c.loop-n.lists) n) all c.loop-n.invariant.before
