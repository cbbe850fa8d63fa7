-- The lists of each kind are lists of pieces with a separator.
use Rattle.std.proofs.Common.{◌≡◌, Bool, true, List, [], ◌∷◌, ◌++◌, refl, ap}
use Rattle.twe_ast.specs.declared.name.Name.{Name}
use Rattle.twe_ast.specs.declared.path.CellElem.{CellElem}
use Rattle.twe_ast.specs.declared.path.Path.{Path}
use Rattle.twe_ast.specs.declared.path.PathElem.{PathElem}
use Rattle.twe_lexer.specs.declared.fixed.Fixed.TheVariants as fixed
use Rattle.twe_lexer.specs.declared.token.TokenKind.TheVariants as kinds
use Rattle.ast_printer.specs.Text.{when}
use Rattle.ast_printer.specs.PathTokens.{elem_tokens, elems_tokens, cell_elem_tokens, cell_elems_tokens, path_tokens}
use Rattle.ast_printer.specs.ItemTokens.{names_tokens, paths_tokens}
use Rattle.ast_printer.specs.inner.Listed.{listed}

pub listed_elems : (later : Bool) (elems : List PathElem) → listed (λ (elem : PathElem). elem_tokens elem.kind) fixed.Colon later elems ≡ elems_tokens later elems
listed_elems later [] = refl
listed_elems later (elem ∷ elems) = ap (λ more. when later fixed.Colon ++ (elem_tokens elem.kind ++ more)) (listed_elems true elems)

pub listed_cell_elems : (later : Bool) (elems : List CellElem) → listed (λ (elem : CellElem). cell_elem_tokens elem.kind) fixed.Colon later elems ≡ cell_elems_tokens later elems
listed_cell_elems later [] = refl
listed_cell_elems later (elem ∷ elems) = ap (λ more. when later fixed.Colon ++ (cell_elem_tokens elem.kind ++ more)) (listed_cell_elems true elems)

pub listed_names : (later : Bool) (names : List Name) → listed (λ (name : Name). kinds.Name name.text ∷ []) fixed.Comma later names ≡ names_tokens later names
listed_names later [] = refl
listed_names later (name ∷ names) = ap (λ more. when later fixed.Comma ++ kinds.Name name.text ∷ more) (listed_names true names)

pub listed_paths : (later : Bool) (paths : List Path) → listed path_tokens fixed.Comma later paths ≡ paths_tokens later paths
listed_paths later [] = refl
listed_paths later (path ∷ paths) = ap (λ more. when later fixed.Comma ++ (path_tokens path ++ more)) (listed_paths true paths)
