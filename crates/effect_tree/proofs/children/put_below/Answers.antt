-- Only the root has no node right above it.
use Rattle.std.proofs.Common.{◌+◌, ℕ, List, refl, sym, subst, arith}
use Rattle.std.proofs.lemmas.List.{length-map}
use Rattle.std.proofs.lemmas.Result.{on_ok_weaker}
use Rattle.effect_tree.specs.inner.Children.{items_of, HasChildrenBelow}
use Rattle.effect_tree.proofs.ChildrenLemmas.{children-more}
use Rattle.effect_tree.proofs.children.put_below.Goals as goal

pub returns-in_default : goal.returns-in_default
returns-in_default c =
    let root = c.in_default.ensures.root.0 refl in
    let inner = c.requires.inner in
    absurd (omega arith)

pub push_at-requires : goal.push_at-requires
push_at-requires c =
    let all = length-map c.args.lists.now.items (λ v. v.items) in
    let counted = c.requires.before.counted in
    let upper = c.in-Some.ensures.above.0 in
    omega arith

pub returns : goal.returns
returns c =
    let nodes = c.args.tree.now in
    on_ok_weaker c.push_at.result
    (λ is. subst (λ (lists : List (List ℕ)). HasChildrenBelow nodes lists (c.args.n + 1)) (sym is)
    (children-more nodes c.requires.tree (items_of c.args.lists.now) c.args.n c.in-Some.above c.requires.before c.in-Some.ensures.above))
    c.push_at.ensures
