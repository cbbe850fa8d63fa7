-- One element more. The node above keeps its number and its path.
use Rattle.std.proofs.Common.{◌≡◌, ◌++◌, ◌∷◌, [], List, sym, subst, arith}
use Rattle.prefix_tree.specs.declared.part.Part.{Part}
use Rattle.prefix_tree.specs.Nodes.{path_of}
use Rattle.prefix_tree.specs.Growth.{Grows, IsRowElement}
use Rattle.prefix_tree.proofs.RowLemmas.{Grows-empty_row, Grows-row}
use Rattle.prefix_tree.proofs.tree.PrefixTree.add_row.Goals as goal

pub loop-i-init : goal.loop-i-init
loop-i-init c =
    let old = c.args.self.now in
    subst (λ (nodes : List (List Part)). Grows old nodes (IsRowElement (path_of old c.args.at) 0)) (sym c.reserve.ensures) (Grows-empty_row old (path_of old c.args.at))

pub child_or_new-requires : goal.child_or_new-requires
child_or_new-requires c = let longer = c.loop-i.invariant.longer in omega (arith, c.requires)

pub loop-i-preserved : goal.loop-i-preserved
loop-i-preserved c =
    let old = c.args.self.now in
    let mid = c.loop-i.self in
    let new = c.child_or_new.new.self in
    let above = c.loop-i.invariant.kept c.args.at c.requires in
    Grows-row old mid new (path_of old c.args.at) c.loop-i.i c.loop-i.invariant
    (subst (λ (q : Part). Grows mid new (λ path. path ≡ path_of old c.args.at ++ q ∷ [])) c.index.ensures
    (subst (λ (p : List Part). Grows mid new (λ path. path ≡ p ++ c.index.result ∷ [])) above c.in_ok-child_or_new.ensures.grows))
