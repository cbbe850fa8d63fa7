-- The printed tokens of declarations, and of a whole program.
use Rattle.std.specs.Prelude.{ℕ, Bool, true, false, Option, None, Some, List, [], ◌∷◌, ◌++◌, unsigned_abs}
use Rattle.twe_ast.specs.declared.item.Ast.{Ast}
use Rattle.twe_ast.specs.declared.item.CellDecl.{CellDecl}
use Rattle.twe_ast.specs.declared.item.CellShape.{CellShape}
use Rattle.twe_ast.specs.declared.item.CellShape.TheVariants as shapes
use Rattle.twe_ast.specs.declared.item.Clause.{Clause}
use Rattle.twe_ast.specs.declared.item.Decl.{Decl}
use Rattle.twe_ast.specs.declared.item.Initial.{Initial}
use Rattle.twe_ast.specs.declared.item.Item.{Item}
use Rattle.twe_ast.specs.declared.item.Item.TheVariants as items
use Rattle.twe_ast.specs.declared.name.Name.{Name}
use Rattle.twe_ast.specs.declared.path.Path.{Path}
use Rattle.twe_lexer.specs.declared.fixed.Fixed.TheVariants as fixed
use Rattle.twe_lexer.specs.declared.token.TokenKind.{TokenKind}
use Rattle.twe_lexer.specs.declared.token.TokenKind.TheVariants as kinds
use Rattle.twe_parser.specs.Writes.{clause_word, return_word}
use Rattle.ast_printer.specs.Text.{when, text_of}
use Rattle.ast_printer.specs.StatementTokens.{block_tokens}
use Rattle.ast_printer.specs.PathTokens.{bracketed, path_tokens, cell_path_tokens}

-- names; `later` is whether others come before them
abbrev pub names_tokens : Bool → List Name → List TokenKind
names_tokens later [] = []
names_tokens later (first ∷ others) = when later fixed.Comma ++ kinds.Name first.text ∷ names_tokens true others

-- the sizes of an array or a grid
abbrev pub size_tokens : CellShape → List TokenKind
size_tokens (shapes.Scalar start) = []
size_tokens (shapes.Array length) = bracketed (kinds.Literal length)
size_tokens (shapes.Grid rows columns) = bracketed (kinds.Literal rows) ++ bracketed (kinds.Literal columns)

-- a written initial value, with its sign
abbrev pub initial_tokens : Option Initial → List TokenKind
initial_tokens None = []
initial_tokens (Some start) =
    kinds.Fixed fixed.Assign ∷ (when start.minus fixed.Minus ++ kinds.Literal (unsigned_abs start.value) ∷ [])

-- the initial value of cells, which only a single cell can have
abbrev pub start_tokens : CellShape → List TokenKind
start_tokens (shapes.Scalar start) = initial_tokens start
start_tokens (shapes.Array length) = []
start_tokens (shapes.Grid rows columns) = []

-- a declaration of cells: its type, its name and sizes, its path, and its initial value
abbrev pub cell_tokens : CellDecl → List TokenKind
cell_tokens cell =
    kinds.Fixed fixed.Int ∷ kinds.Name cell.name.text ∷ (size_tokens cell.shape
    ++ kinds.Fixed fixed.In ∷ (cell_path_tokens cell.path
    ++ (start_tokens cell.shape ++ kinds.Fixed fixed.Semicolon ∷ [])))

-- parameters; `later` is whether others come before them
abbrev pub params_tokens : Bool → List Name → List TokenKind
params_tokens later [] = []
params_tokens later (first ∷ others) =
    when later fixed.Comma ++ kinds.Fixed fixed.Int ∷ kinds.Name first.text ∷ params_tokens true others

-- paths; `later` is whether others come before them
abbrev pub paths_tokens : Bool → List Path → List TokenKind
paths_tokens later [] = []
paths_tokens later (first ∷ others) = when later fixed.Comma ++ (path_tokens first ++ paths_tokens true others)

-- one clause of effects: its word, and its paths
abbrev pub clause_tokens : Clause → List TokenKind
clause_tokens clause = kinds.Fixed (clause_word clause.write) ∷ paths_tokens false clause.paths

-- clauses of effects, one after another
abbrev pub clauses_tokens : List Clause → List TokenKind
clauses_tokens [] = []
clauses_tokens (first ∷ others) = clause_tokens first ++ clauses_tokens others

-- the clauses of effects, or `pure`
abbrev pub effects_tokens : List Clause → List TokenKind
effects_tokens [] = kinds.Fixed fixed.Pure ∷ []
effects_tokens (first ∷ others) = clauses_tokens (first ∷ others)

-- a method, or a task after the word `task`: what it returns, its name, parameters and effects, and its body
abbrev pub decl_tokens : Decl → List TokenKind
decl_tokens decl =
    kinds.Fixed (return_word decl.returns) ∷ kinds.Name decl.name.text ∷ kinds.Fixed fixed.OpenParen
    ∷ (params_tokens false decl.params
    ++ kinds.Fixed fixed.CloseParen ∷ (effects_tokens decl.effects
    ++ kinds.Fixed fixed.OpenBrace ∷ block_tokens decl.body))

-- a declaration of a program
abbrev pub item_tokens : Item → List TokenKind
item_tokens (items.Regions names) = kinds.Fixed fixed.Region ∷ (names_tokens false names ++ kinds.Fixed fixed.Semicolon ∷ [])
item_tokens (items.Cell cell) = cell_tokens cell
item_tokens (items.Method decl) = decl_tokens decl
item_tokens (items.Task deterministic decl) = when deterministic fixed.Deterministic ++ kinds.Fixed fixed.Task ∷ decl_tokens decl

-- declarations of a program, one after another
abbrev pub items_tokens : List Item → List TokenKind
items_tokens [] = []
items_tokens (first ∷ others) = item_tokens first ++ items_tokens others

-- the printed text of a tree
abbrev pub printed_tokens : Ast → List ℕ
printed_tokens tree = text_of (items_tokens tree.items)
