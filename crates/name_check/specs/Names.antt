-- The bindings of names: of global names, which are in scope everywhere, and of names inside a declaration.
use Rattle.std.specs.Prelude.{ℕ, ◌+◌, bytes_eq, if◌then◌else◌, List, [], ◌∷◌, ◌++◌, Option, None, Some, length, codes}
use Rattle.twe_ast.specs.declared.name.Name.{Name}
use Rattle.twe_ast.specs.declared.item.Ast.{Ast}
use Rattle.twe_ast.specs.declared.item.Item.{Item}
use Rattle.twe_ast.specs.declared.item.Item.TheVariants as items
use Rattle.twe_ast.specs.declared.item.CellShape.{CellShape}
use Rattle.twe_ast.specs.declared.item.CellShape.TheVariants as shapes
use Rattle.name_check.specs.declared.names.GlobalName.{GlobalName}
use Rattle.name_check.specs.declared.scope.LocalName.{LocalName}
use Rattle.name_check.specs.declared.binding.Global.{Global}
use Rattle.name_check.specs.declared.binding.Global.TheVariants as global_kinds
use Rattle.name_check.specs.declared.binding.Local.{Local}
use Rattle.name_check.specs.declared.binding.Binding.{Binding}
use Rattle.name_check.specs.declared.binding.Binding.TheVariants as bindings

-- the numbers of regions, declarations of cells, methods and tasks before an item
pub record Before : Type 0 where
  pub regions : ℕ
  pub cells : ℕ
  pub methods : ℕ
  pub tasks : ℕ

-- at the start of a text there is `Console`
abbrev pub at_start : Before
at_start = record { regions = 1; cells = 0; methods = 0; tasks = 0 }

-- how many indexes a use of a cell of this shape has
abbrev pub indexes_of : CellShape → ℕ
indexes_of (shapes.Scalar initial) = 0
indexes_of (shapes.Array elements) = 1
indexes_of (shapes.Grid rows columns) = 2

-- regions, with their numbers
abbrev pub regions_from : ℕ → List Name → List GlobalName
regions_from number [] = []
regions_from number (name ∷ names) = record {
  text = name.text;
  place = name.place;
  global = global_kinds.Region number;
} ∷ regions_from (number + 1) names

-- what an item declares, if these are before it
abbrev pub declared_by : Before → Item → List GlobalName
declared_by before (items.Regions names) = regions_from before.regions names
declared_by before (items.Cell cell) = record {
  text = cell.name.text;
  place = cell.name.place;
  global = global_kinds.Cells before.cells (indexes_of cell.shape);
} ∷ []
declared_by before (items.Method decl) = record {
  text = decl.name.text;
  place = decl.name.place;
  global = global_kinds.Method before.methods (length decl.params) decl.returns;
} ∷ []
declared_by before (items.Task deterministic decl) = record {
  text = decl.name.text;
  place = decl.name.place;
  global = global_kinds.Task before.tasks (length decl.params) decl.returns;
} ∷ []

-- the numbers after an item, if these are the numbers before it
abbrev pub past : Before → Item → Before
past before (items.Regions names) = record before { regions = before.regions + length names }
past before (items.Cell cell) = record before { cells = before.cells + 1 }
past before (items.Method decl) = record before { methods = before.methods + 1 }
past before (items.Task deterministic decl) = record before { tasks = before.tasks + 1 }

-- what the items declare, in their order, if these numbers are before them
abbrev pub globals_from : Before → List Item → List GlobalName
globals_from before [] = []
globals_from before (item ∷ others) = declared_by before item ++ globals_from (past before item) others

-- the global names that a text declares, in the order of the text
abbrev pub globals_of : Ast → List GlobalName
globals_of ast = globals_from at_start ast.items

-- the binding of the first of these of that name
abbrev pub first_global : List ℕ → List GlobalName → Option Global
first_global text [] = None
first_global text (first ∷ others) = if bytes_eq text first.text then Some first.global else first_global text others

-- the same for the parameters, locals and futures of a declaration
abbrev pub first_local : List ℕ → List LocalName → Option Local
first_local text [] = None
first_local text (first ∷ others) = if bytes_eq text first.text then Some first.local else first_local text others

-- the global binding of a name: `Console` is a region beforehand, and of several declarations the first counts
abbrev pub global_of : List GlobalName → List ℕ → Option Global
global_of globals text = if bytes_eq text (codes "Console") then Some (global_kinds.Region 0) else first_global text globals

-- the binding of a name to a parameter, a local or a future, if one was found
abbrev pub binding_of_local : Option Local → Option Binding
binding_of_local None = None
binding_of_local (Some local) = Some (bindings.Local local)

-- the binding of a name to something global, if that was found
abbrev pub seen_as_global : Option Global → Option Binding
seen_as_global None = None
seen_as_global (Some global) = Some (bindings.Global global)

-- the binding inside the declaration if there is one, and otherwise the global one
abbrev pub either : Option Local → Option Global → Option Binding
either None global = seen_as_global global
either (Some local) global = Some (bindings.Local local)

-- the binding of a name if these names are in scope
abbrev pub binding_of : List GlobalName → List LocalName → List ℕ → Option Binding
binding_of globals locals text = either (first_local text locals) (global_of globals text)
