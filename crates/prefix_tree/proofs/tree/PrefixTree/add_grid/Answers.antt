-- One row more, with its elements. The node above keeps its number and its path, and so does the row.
use Rattle.std.proofs.Common.{◌≡◌, ◌<◌, ◌++◌, ◌∷◌, [], List, ap, subst, ◌∙◌, arith}
use Rattle.prefix_tree.specs.declared.part.Part.{Part}
use Rattle.prefix_tree.specs.Nodes.{path_of}
use Rattle.prefix_tree.specs.Growth.{Grows, IsRowElement}
use Rattle.prefix_tree.proofs.RowLemmas.{Grows-empty_grid, Grows-grid}
use Rattle.prefix_tree.proofs.tree.PrefixTree.add_grid.Goals as goal

pub loop-i-init : goal.loop-i-init
loop-i-init c = Grows-empty_grid c.args.self.now (path_of c.args.self.now c.args.at) c.args.columns

pub child_or_new-requires : goal.child_or_new-requires
child_or_new-requires c = let longer = c.loop-i.invariant.longer in omega (arith, c.requires)

pub loop-i-preserved : goal.loop-i-preserved
loop-i-preserved c =
    let old = c.args.self.now in
    let mid = c.loop-i.self in
    let row = c.child_or_new.new.self in
    let new = c.add_row.new.self in
    let above = c.loop-i.invariant.kept c.args.at c.requires in
    let at = c.in_ok-row.ensures.path ∙ ap (λ (p : List Part). p ++ c.index.result ∷ []) above ∙ ap (λ (q : Part). path_of old c.args.at ++ q ∷ []) c.index.ensures in
    let some : 0 < c.args.columns = omega arith in
    Grows-grid old mid row new (path_of old c.args.at) c.loop-i.i c.args.columns some c.loop-i.invariant
    (subst (λ (q : Part). Grows mid row (λ path. path ≡ path_of old c.args.at ++ q ∷ [])) c.index.ensures
    (subst (λ (p : List Part). Grows mid row (λ path. path ≡ p ++ c.index.result ∷ [])) above c.in_ok-row.ensures.grows))
    (subst (λ (p : List Part). Grows row new (IsRowElement p c.args.columns)) at c.in_ok-add_row.ensures)
