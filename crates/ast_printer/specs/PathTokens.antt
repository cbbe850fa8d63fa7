-- The printed tokens of paths. `Root` is printed if the path is empty or its first element is not a name.
use Rattle.std.specs.Prelude.{Bool, true, false, not, List, [], ◌∷◌, ◌++◌}
use Rattle.twe_ast.specs.declared.path.CellElem.{CellElem}
use Rattle.twe_ast.specs.declared.path.CellElemKind.{CellElemKind}
use Rattle.twe_ast.specs.declared.path.CellElemKind.TheVariants as cell_kinds
use Rattle.twe_ast.specs.declared.path.CellPath.{CellPath}
use Rattle.twe_ast.specs.declared.path.Path.{Path}
use Rattle.twe_ast.specs.declared.path.PathElem.{PathElem}
use Rattle.twe_ast.specs.declared.path.PathElemKind.{PathElemKind}
use Rattle.twe_ast.specs.declared.path.PathElemKind.TheVariants as elem_kinds
use Rattle.twe_lexer.specs.declared.fixed.Fixed.TheVariants as fixed
use Rattle.twe_lexer.specs.declared.token.TokenKind.{TokenKind}
use Rattle.twe_lexer.specs.declared.token.TokenKind.TheVariants as kinds
use Rattle.ast_printer.specs.Text.{when}

-- a token in brackets
abbrev pub bracketed : TokenKind → List TokenKind
bracketed word = kinds.Fixed fixed.OpenBracket ∷ word ∷ kinds.Fixed fixed.CloseBracket ∷ []

-- an element of the path of an effect
abbrev pub elem_tokens : PathElemKind → List TokenKind
elem_tokens (elem_kinds.Name text) = kinds.Name text ∷ []
elem_tokens (elem_kinds.Index index) = bracketed (kinds.Literal index)
elem_tokens (elem_kinds.Variable name) = bracketed (kinds.Name name.text)
elem_tokens elem_kinds.AnyIndex = bracketed (kinds.Fixed fixed.Question)
elem_tokens elem_kinds.Star = kinds.Fixed fixed.Star ∷ []

-- elements; `later` is whether something comes before them in the path
abbrev pub elems_tokens : Bool → List PathElem → List TokenKind
elems_tokens later [] = []
elems_tokens later (first ∷ others) = when later fixed.Colon ++ (elem_tokens first.kind ++ elems_tokens true others)

-- the element is the name of a region
abbrev pub is_name : PathElemKind → Bool
is_name (elem_kinds.Name text) = true
is_name _ = false

-- `Root` is printed before these elements
abbrev pub needs_root : List PathElem → Bool
needs_root [] = true
needs_root (first ∷ others) = not (is_name first.kind)

-- the path of an effect
abbrev pub path_tokens : Path → List TokenKind
path_tokens path = when (needs_root path.elems) fixed.Root ++ elems_tokens (needs_root path.elems) path.elems

-- an element of the path of a cell
abbrev pub cell_elem_tokens : CellElemKind → List TokenKind
cell_elem_tokens (cell_kinds.Name text) = kinds.Name text ∷ []
cell_elem_tokens (cell_kinds.Index index) = bracketed (kinds.Literal index)

-- elements of the path of a cell; `later` is whether something comes before them in the path
abbrev pub cell_elems_tokens : Bool → List CellElem → List TokenKind
cell_elems_tokens later [] = []
cell_elems_tokens later (first ∷ others) =
    when later fixed.Colon ++ (cell_elem_tokens first.kind ++ cell_elems_tokens true others)

-- the element of the path of a cell is the name of a region
abbrev pub is_cell_name : CellElemKind → Bool
is_cell_name (cell_kinds.Name text) = true
is_cell_name (cell_kinds.Index index) = false

-- `Root` is printed before these elements of the path of a cell
abbrev pub cell_needs_root : List CellElem → Bool
cell_needs_root [] = true
cell_needs_root (first ∷ others) = not (is_cell_name first.kind)

-- the path of a cell
abbrev pub cell_path_tokens : CellPath → List TokenKind
cell_path_tokens path = when (cell_needs_root path.elems) fixed.Root ++ cell_elems_tokens (cell_needs_root path.elems) path.elems
