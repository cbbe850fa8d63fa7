-- What holds of each tree that a text was parsed to, and that its meaning needs.
use Rattle.std.specs.Prelude.{◌≡◌, ◌≤◌, Bool, true, false, ◌&&◌, Contains, All}
use Rattle.twe_ast.specs.declared.item.Ast.{Ast}
use Rattle.twe_ast.specs.declared.item.CellDecl.{CellDecl}
use Rattle.twe_ast.specs.declared.item.Decl.{Decl}
use Rattle.twe_ast.specs.declared.item.Item.TheVariants as items
use Rattle.twe_ast.specs.declared.path.Path.{Path}
use Rattle.twe_ast.specs.declared.path.PathElem.{PathElem}
use Rattle.twe_ast.specs.declared.path.PathElemKind.{PathElemKind}
use Rattle.twe_ast.specs.declared.path.PathElemKind.TheVariants as elem_kinds
use Rattle.twe_ast.specs.declared.path.CellElem.{CellElem}
use Rattle.twe_ast.specs.declared.path.CellElemKind.{CellElemKind}
use Rattle.twe_ast.specs.declared.path.CellElemKind.TheVariants as cell_kinds
use Rattle.twe_ast.specs.Statement.{Statement, Block, If, While, Make, Statements, end_of_block, statement, Arms, arm, otherwise, no_else}
use Rattle.name_check.specs.cell_limits.GoesOver.{cells_of}
use Rattle.name_check.specs.Limits.{decls_of, paths_of}
use Rattle.name_check.specs.Size.{IsCountable}

-- an index is a literal up to 2147483647
abbrev pub IsSmall : PathElemKind → Type 0
IsSmall (elem_kinds.Index index) = index ≤ 2147483647
IsSmall _ = Unit {0}

-- the same for an index in the path of a cell
abbrev pub IsSmallInCell : CellElemKind → Type 0
IsSmallInCell (cell_kinds.Index index) = index ≤ 2147483647
IsSmallInCell (cell_kinds.Name text) = Unit {0}

-- no part of the statements makes a task
abbrev mutual
  pub makes_none : Statement → Bool
  makes_none (Block body) = all_make_none body
  makes_none (If arms) = arms_make_none arms
  makes_none (While place condition body) = all_make_none body
  makes_none (Make future task spawned args) = false
  makes_none _ = true

  pub all_make_none : Statements → Bool
  all_make_none (end_of_block close) = true
  all_make_none (statement first others) = makes_none first && all_make_none others

  pub arms_make_none : Arms → Bool
  arms_make_none (arm condition body others) = all_make_none body && arms_make_none others
  arms_make_none (otherwise body) = all_make_none body
  arms_make_none no_else = true

-- All that the tree declares and does can be numbered, its indexes are literals that a text may have, and no method
-- makes a task.
pub record IsFromText (ast : Ast) : Type 0 where
  pub countable : IsCountable ast
  pub cell_indexes : (cell : CellDecl) → Contains (cells_of ast.items) cell
      → All (λ (elem : CellElem). IsSmallInCell elem.kind) cell.path.elems
  pub indexes : (decl : Decl) (path : Path) → Contains (decls_of ast) decl → Contains (paths_of decl) path
      → All (λ (elem : PathElem). IsSmall elem.kind) path.elems
  pub methods : (decl : Decl) → Contains ast.items (items.Method decl) → all_make_none decl.body ≡ true
