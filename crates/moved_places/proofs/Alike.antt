-- Two trees that become equal when their places are moved declare the same, and need the same.
use Rattle.std.proofs.Common.{◌≡◌, ℕ, List, map, sym, ap, ◌∙◌}
use Rattle.twe_base.specs.declared.place.Place.{Place}
use Rattle.twe_ast.specs.declared.item.Ast.{Ast}
use Rattle.twe_ast.specs.declared.item.Decl.{Decl}
use Rattle.name_check.specs.declared.scope.LocalName.{LocalName}
use Rattle.name_check.specs.Names.{globals_of, binding_of}
use Rattle.name_check.specs.Sites.{sites_of}
use Rattle.name_check.specs.Limits.{decls_of, paths_of}
use Rattle.name_check.specs.cell_limits.GoesOver.{cells_of}
use Rattle.moved_places.specs.MovedTree.{moved_path, moved_cell, moved_decl, moved_tree}
use Rattle.moved_places.proofs.MovedNeeds.{moved_global, moved_site}
use Rattle.moved_places.proofs.Bindings.{binding-same}
use Rattle.moved_places.proofs.Items.{moved-sites, moved-globals, moved-decls, moved-cells, moved-paths}

module _ (from to : Place → Place) (one other : Ast) (same : moved_tree from one ≡ moved_tree to other) where
  pub globals-alike : map (moved_global from) (globals_of one) ≡ map (moved_global to) (globals_of other)
  globals-alike = sym (moved-globals from one) ∙ ap globals_of same ∙ moved-globals to other

  pub sites-alike : map (moved_site from) (sites_of one) ≡ map (moved_site to) (sites_of other)
  sites-alike = sym (moved-sites from one) ∙ ap sites_of same ∙ moved-sites to other

  pub decls-alike : map (moved_decl from) (decls_of one) ≡ map (moved_decl to) (decls_of other)
  decls-alike = sym (moved-decls from one) ∙ ap decls_of same ∙ moved-decls to other

  pub cells-alike : map (moved_cell from) (cells_of one.items) ≡ map (moved_cell to) (cells_of other.items)
  cells-alike = sym (moved-cells from one.items) ∙ ap (λ (tree : Ast). cells_of tree.items) same ∙ moved-cells to other.items

  pub binding-alike : (locals : List LocalName) (text : List ℕ) → binding_of (globals_of one) locals text ≡ binding_of (globals_of other) locals text
  binding-alike locals text =
      sym (binding-same from (globals_of one) locals text) ∙ ap (λ globals. binding_of globals locals text) globals-alike ∙ binding-same to (globals_of other) locals text

-- the paths of two declarations
pub paths-alike : (from to : Place → Place) (decl its : Decl) → moved_decl from decl ≡ moved_decl to its
    → map (moved_path from) (paths_of decl) ≡ map (moved_path to) (paths_of its)
paths-alike from to decl its same = sym (moved-paths from decl) ∙ ap paths_of same ∙ moved-paths to its
