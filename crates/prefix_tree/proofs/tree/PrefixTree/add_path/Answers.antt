-- The walk goes on by each element.
use Rattle.std.proofs.Common.{◌≡◌, ℕ, ◌++◌, ◌∷◌, [], List, length, get_or, take, sym, ap, subst, ◌∙◌, arith}
use Rattle.std.proofs.Math.Seq.{take-length}
use Rattle.std.proofs.lemmas.List.{take_more}
use Rattle.prefix_tree.specs.declared.part.Part.{Part}
use Rattle.prefix_tree.specs.declared.part.Part.TheVariants.{Name}
use Rattle.prefix_tree.specs.Prefix.{IsPrefix}
use Rattle.prefix_tree.specs.Nodes.{path_of}
use Rattle.prefix_tree.specs.Growth.{Grows}
use Rattle.prefix_tree.proofs.GrowthLemmas.{Grows-root, Grows-longer}
use Rattle.prefix_tree.proofs.tree.PrefixTree.add_path.Goals as goal

pub loop-part-init : goal.loop-part-init
loop-part-init c =
    let nodes = c.args.self.now in
    let zero = c.root-at.ensures.number in
    let tree = c.root-at.ensures.tree in
    let some = tree.some in
    record {
      there = omega (arith, zero);
      path = ap (path_of nodes) zero ∙ tree.root;
      grows = subst (λ (n : ℕ). Grows nodes nodes (λ prefix. IsPrefix prefix (path_of nodes n))) (sym zero) (Grows-root nodes some tree.root);
    }

pub loop-part-preserved : goal.loop-part-preserved
loop-part-preserved c =
    let loop = c.loop-part in
    let path = c.args.path.now in
    record {
      there = c.in_ok-at.ensures.there;
      path =
          c.in_ok-at.ensures.path
          ∙ ap (λ (p : List Part). p ++ get_or path loop.part-index (Name 0) ∷ []) loop.invariant.path
          ∙ sym (take_more path loop.part-index (Name 0) c.loop-part-test.true);
      grows = Grows-longer c.args.self.now loop.self _ (path_of loop.self loop.at) _ _ loop.invariant.grows c.in_ok-at.ensures.grows c.in_ok-at.ensures.path;
    }

pub returns-clause-path : goal.returns-clause-path
returns-clause-path c =
    let loop = c.loop-part in
    let all : loop.part-index ≡ length c.args.path.now = omega arith in
    loop.invariant.path ∙ ap (λ (n : ℕ). take n c.args.path.now) all ∙ take-length c.args.path.now

pub returns-clause-grows : goal.returns-clause-grows
returns-clause-grows c =
    let loop = c.loop-part in
    let all : loop.part-index ≡ length c.args.path.now = omega arith in
    subst (λ (at : List Part). Grows c.args.self.now loop.self (λ prefix. IsPrefix prefix at))
    (loop.invariant.path ∙ ap (λ (n : ℕ). take n c.args.path.now) all ∙ take-length c.args.path.now)
    loop.invariant.grows
