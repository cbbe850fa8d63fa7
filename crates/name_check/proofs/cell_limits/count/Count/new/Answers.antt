-- The root has the empty path, and `Console` comes below it.
use Rattle.std.proofs.Common.{◌≡◌, ℕ, ◌++◌, ◌∷◌, [], List, length, refl, ap, subst, ◌∙◌, arith}
use Rattle.twe_ast.specs.declared.path.CellElemKind.TheVariants.{Name}
use Rattle.prefix_tree.specs.declared.part.Part.{Part}
use Rattle.prefix_tree.specs.Nodes.{path_of}
use Rattle.prefix_tree.specs.Growth.{Grows}
use Rattle.name_check.specs.cell_limits.inner.Parts.{part_of}
use Rattle.name_check.proofs.cell_limits.Counts.{exact-console}
use Rattle.name_check.proofs.cell_limits.count.Count.new.Goals as goal

pub child_or_new-requires : goal.child_or_new-requires
child_or_new-requires c = let one = ap length c.in_ok-tree.ensures in omega arith

pub returns : goal.returns
returns c =
    let names = c.args.names.now in
    let old = c.in_ok-tree.tree in
    let new = c.child_or_new.new.self in
    let named = c.part.ensures ∙ ap (λ (text : List ℕ). part_of names (Name text)) c.in_ok-from_text.ensures in
    record {
      cells = refl;
      few_cells = omega arith;
      exact = exact-console names old new c.in_ok-tree.ensures (subst (λ (p : Part). Grows old new (λ path. path ≡ path_of old 0 ++ p ∷ [])) named c.in_ok-child_or_new.ensures.grows);
      few_nodes = let one = ap length c.in_ok-tree.ensures in let more = c.in_ok-child_or_new.ensures.one in omega arith;
    }
