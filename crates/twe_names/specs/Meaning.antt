-- The program that a tree means.
use Rattle.std.specs.Prelude.{ℕ, ℤ, pos, ◌+◌, Bool, true, false, List, [], ◌∷◌, map, Some, length, codes, flat_map}
use Rattle.twe_ast.specs.declared.item.Ast.{Ast}
use Rattle.twe_ast.specs.declared.item.CellDecl as written_cell
use Rattle.twe_ast.specs.declared.item.CellShape.{CellShape}
use Rattle.twe_ast.specs.declared.item.CellShape.TheVariants as shapes
use Rattle.twe_ast.specs.declared.item.Decl as written_decl
use Rattle.twe_ast.specs.declared.item.Item.{Item}
use Rattle.twe_ast.specs.declared.item.Item.TheVariants as items
use Rattle.twe_ast.specs.declared.item.ReturnType.{ReturnType}
use Rattle.twe_ast.specs.declared.item.ReturnType.TheVariants as return_types
use Rattle.twe_ast.specs.declared.name.Name.{Name}
use Rattle.twe_program.specs.declared.program.Body.{Body}
use Rattle.twe_program.specs.declared.program.CellDecl.{CellDecl}
use Rattle.twe_program.specs.declared.program.Decl.{Decl}
use Rattle.twe_program.specs.declared.program.Dims.{Dims}
use Rattle.twe_program.specs.declared.program.Dims.TheVariants.{Scalar, Row, Grid}
use Rattle.twe_program.specs.Program.{Program, size_of}
use Rattle.name_check.specs.cell_limits.GoesOver.{cells_of}
use Rattle.name_check.specs.declared.names.GlobalName.{GlobalName}
use Rattle.name_check.specs.Names.{globals_of, binding_of}
use Rattle.name_check.specs.BodyScope.{after_all}
use Rattle.name_check.specs.Sites.{at_body}
use Rattle.name_check.specs.Ends.{close_of}
use Rattle.twe_names.specs.BodyMeaning.{statements_of, task_number}
use Rattle.twe_names.specs.PathMeaning.{summary_meaning, cell_path_of}

-- the names of the regions that an item declares
abbrev pub regions_of_item : Item → List (List ℕ)
regions_of_item (items.Regions names) = map (λ (name : Name). name.text) names
regions_of_item _ = []

-- how many cells a declaration of this shape has: one, a row, or a grid of rows and columns
abbrev pub dims_of : CellShape → Dims
dims_of (shapes.Scalar initial) = Scalar
dims_of (shapes.Array elements) = Row elements
dims_of (shapes.Grid rows columns) = Grid rows columns

-- the initial value of a cell, which is 0 if none is written
abbrev pub initial_of : CellShape → ℤ
initial_of (shapes.Scalar (Some initial)) = initial.value
initial_of _ = pos 0

-- a declaration of cells, before which `first` cells are declared
abbrev pub cell_of : List GlobalName → ℕ → written_cell.CellDecl → CellDecl
cell_of globals first cell = record {
  name = cell.name.text;
  path = cell_path_of globals cell.path;
  dims = dims_of cell.shape;
  first = first;
  init = initial_of cell.shape;
  place = cell.name.place;
}

-- the declarations of cells, before which `first` cells are declared
abbrev pub cells_from : List GlobalName → ℕ → List written_cell.CellDecl → List CellDecl
cells_from globals first [] = []
cells_from globals first (cell ∷ cells) =
    cell_of globals first cell ∷ cells_from globals (first + size_of (dims_of cell.shape)) cells

-- whether a declaration returns a value
abbrev pub returns_value : ReturnType → Bool
returns_value return_types.Int = true
returns_value return_types.Void = false

-- the body of a declaration, with what is counted at its end
abbrev pub declared_body : List GlobalName → written_decl.Decl → Body
declared_body globals decl =
    let end = after_all globals (at_body decl) decl.body in record {
      block = statements_of globals (at_body decl) decl.body;
      vars = end.vars;
      futures = end.futures;
      points = end.points + 1;
      close = close_of decl.body;
    }

-- the declaration of a method or a task, which may be deterministic
abbrev pub decl_of : List GlobalName → Bool → written_decl.Decl → Decl
decl_of globals deterministic decl = record {
  name = decl.name.text;
  params = length decl.params;
  int = returns_value decl.returns;
  deterministic = deterministic;
  summary = summary_meaning globals decl;
  body = declared_body globals decl;
  place = decl.name.place;
}

-- the method that an item is, if it is one; no method is deterministic
abbrev pub methods_of_item : List GlobalName → Item → List Decl
methods_of_item globals (items.Method decl) = decl_of globals false decl ∷ []
methods_of_item globals _ = []

-- the task that an item is, if it is one
abbrev pub tasks_of_item : List GlobalName → Item → List Decl
tasks_of_item globals (items.Task deterministic decl) = decl_of globals deterministic decl ∷ []
tasks_of_item globals _ = []

-- the program: regions, cells, methods and tasks in the order of the text, and the number of the task `main`
abbrev pub program_of : Ast → Program
program_of ast = record {
  regions = codes "Console" ∷ flat_map regions_of_item ast.items;
  cells = cells_from (globals_of ast) 0 (cells_of ast.items);
  methods = flat_map (methods_of_item (globals_of ast)) ast.items;
  tasks = flat_map (tasks_of_item (globals_of ast)) ast.items;
  main = task_number (binding_of (globals_of ast) [] (codes "main"));
}
