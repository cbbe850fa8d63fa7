-- The rules of names: where a tree fails them, and which failure is the first.
use Rattle.std.specs.Prelude.{◌≡◌, ◌⊎◌, ℕ, ◌<◌, ◌≤◌, ◌==◌, Bool, true, false, not, List, [], ◌∷◌, ◌++◌, Option, None, Some, codes, Contains}
use Rattle.twe_base.specs.declared.place.Place.{Place}
use Rattle.twe_base.specs.Language.{max_effects, max_parameters, max_path_elements}
use Rattle.twe_base.specs.declared.failure.Failure.{Failure}
use Rattle.twe_base.specs.Order as order
use Rattle.twe_ast.specs.declared.item.Ast.{Ast}
use Rattle.twe_ast.specs.declared.item.CellDecl.{CellDecl}
use Rattle.twe_ast.specs.declared.item.Decl.{Decl}
use Rattle.twe_ast.specs.declared.item.Item.TheVariants as items
use Rattle.twe_ast.specs.declared.item.ReturnType.{ReturnType}
use Rattle.twe_ast.specs.declared.item.ReturnType.TheVariants as return_types
use Rattle.twe_ast.specs.declared.name.Name.{Name}
use Rattle.twe_ast.specs.declared.path.Path.{Path}
use Rattle.twe_ast.specs.declared.path.PathElem.{PathElem}
use Rattle.twe_ast.specs.declared.path.CellElem.{CellElem}
use Rattle.twe_ast.specs.declared.stmt.LocalType.{LocalType}
use Rattle.twe_ast.specs.Expression.{Expression}
use Rattle.name_check.specs.declared.rule.NRule.{NRule}
use Rattle.name_check.specs.declared.rule.NRule.TheVariants.{N1, N2, N3, N4, N5, N6, N7, N8, N9}
use Rattle.name_check.specs.declared.binding.NameUse.{NameUse}
use Rattle.name_check.specs.declared.binding.NameUse.TheVariants as name_use
use Rattle.name_check.specs.declared.binding.Global.TheVariants as global_kinds
use Rattle.name_check.specs.declared.binding.Local.TheVariants as local_kinds
use Rattle.name_check.specs.declared.binding.Binding.{Binding}
use Rattle.name_check.specs.declared.binding.Binding.TheVariants as bindings
use Rattle.name_check.specs.declared.names.GlobalName.{GlobalName}
use Rattle.name_check.specs.declared.scope.LocalName.{LocalName}
use Rattle.name_check.specs.Names.{globals_of, first_local, binding_of, binding_of_local}
use Rattle.name_check.specs.Types.{type_of}
use Rattle.name_check.specs.Asks.{Ask, uses, needs, declares, returns_value, returns_nothing, place_of}
use Rattle.name_check.specs.Sites.{sites_of}
use Rattle.name_check.specs.Ends.{one_ends, close_of}
use Rattle.name_check.specs.cell_limits.GoesOver.{cells_of, GoesOver}
use Rattle.name_check.specs.Limits.{decls_of, paths_of, StandsAfter, IsSecondStar}

-- the text needs this while these names are in scope, in a declaration that returns this
abbrev pub Asks : Ast → List LocalName → ReturnType → Ask → Type 0
Asks ast locals returns ask = Contains (sites_of ast) (record { locals = locals; returns = returns; ask = ask })

-- The binding of a name for this use. As an index in the path of an effect only parameters are in scope.
abbrev pub binding_as : List GlobalName → List LocalName → NameUse → List ℕ → Option Binding
binding_as globals locals name_use.Parameter text = binding_of_local (first_local text locals)
binding_as globals locals _ text = binding_of globals locals text

-- the binding is of the kind that the use needs; an array has the number of indexes that are given
abbrev pub fits : NameUse → Binding → Bool
fits name_use.Region (bindings.Global (global_kinds.Region number)) = true
fits name_use.Parameter (bindings.Local (local_kinds.Variable number local_type constant)) = true
fits name_use.Value (bindings.Local (local_kinds.Variable number local_type constant)) = true
fits name_use.Value (bindings.Global (global_kinds.Cells number indexes)) = indexes == 0
fits name_use.Target (bindings.Local (local_kinds.Variable number local_type constant)) = true
fits name_use.Target (bindings.Global (global_kinds.Cells number indexes)) = indexes == 0
fits (name_use.Array given) (bindings.Global (global_kinds.Cells number indexes)) = indexes == given
fits (name_use.Method args valued) (bindings.Global (global_kinds.Method number params returns)) = true
fits (name_use.Task args) (bindings.Global (global_kinds.Task number params returns)) = true
fits (name_use.Future true valued) (bindings.Local (local_kinds.Future number spawned void)) = spawned
fits (name_use.Future false valued) (bindings.Local (local_kinds.Future number spawned void)) = not spawned
fits _ _ = false

-- the tree declares this global name after one of the same text, or it is `Console`
pub record IsDeclaredAgain (ast : Ast) (this : GlobalName) : Type 0 where
  pub before : List GlobalName
  pub after : List GlobalName
  pub list : globals_of ast ≡ before ++ this ∷ after
  pub again : (this.text ≡ codes "Console") ⊎ ((earlier : GlobalName) × Contains before earlier × (earlier.text ≡ this.text))

-- there is a task `main` that has no parameters and returns nothing
pub record HasMain (ast : Ast) : Type 0 where
  pub deterministic : Bool
  pub decl : Decl
  pub there : Contains ast.items (items.Task deterministic decl)
  pub named : decl.name.text ≡ codes "main"
  pub plain : decl.params ≡ []
  pub void : decl.returns ≡ return_types.Void

-- The tree fails this rule at this place.
pub data FailsName (ast : Ast) : NRule → Place → Type 0 where
  -- a name is used that is not in scope
  unknown : (locals : List LocalName) (returns : ReturnType) (name : Name) (asks : NameUse)
      → Asks ast locals returns (uses name asks)
      → binding_as (globals_of ast) locals asks name.text ≡ None
      → FailsName ast N1 name.place
  -- a global name is declared a second time, or is `Console`
  declared_again : (name : GlobalName) → IsDeclaredAgain ast name → FailsName ast N2 name.place
  -- a parameter, local or future gets a name that is in scope
  hides : (locals : List LocalName) (returns : ReturnType) (name : Name) (other : Binding)
      → Asks ast locals returns (declares name)
      → binding_of (globals_of ast) locals name.text ≡ Some other
      → FailsName ast N2 name.place
  -- a name is bound to another kind than its use needs, or to an array with another number of indexes
  other_kind : (locals : List LocalName) (returns : ReturnType) (name : Name) (asks : NameUse) (other : Binding)
      → Asks ast locals returns (uses name asks)
      → binding_as (globals_of ast) locals asks name.text ≡ Some other
      → fits asks other ≡ false
      → FailsName ast N3 name.place
  -- an expression has another type than is needed
  other_type : (locals : List LocalName) (returns : ReturnType) (type other : LocalType) (value : Expression)
      → Asks ast locals returns (needs type value)
      → type_of (globals_of ast) locals value ≡ Some other
      → ¬ (type ≡ other)
      → FailsName ast N3 (place_of value)
  -- a method that returns nothing is called in an expression
  void_method : (locals : List LocalName) (returns : ReturnType) (name : Name) (args number params : ℕ)
      → Asks ast locals returns (uses name (name_use.Method args true))
      → binding_of (globals_of ast) locals name.text
      ≡ Some (bindings.Global (global_kinds.Method number params return_types.Void))
      → FailsName ast N3 name.place
  -- a value is taken from a task that returns nothing
  void_task : (locals : List LocalName) (returns : ReturnType) (name : Name) (join spawned : Bool) (number : ℕ)
      → Asks ast locals returns (uses name (name_use.Future join true))
      → binding_of (globals_of ast) locals name.text ≡ Some (bindings.Local (local_kinds.Future number spawned true))
      → FailsName ast N3 name.place
  -- a body that returns nothing has a `return` with a value
  value_for_nothing : (locals : List LocalName) (place : Place)
      → Asks ast locals return_types.Void (returns_value place)
      → FailsName ast N3 place
  -- a body that returns a value has a `return` without one
  nothing_for_value : (locals : List LocalName) (place : Place)
      → Asks ast locals return_types.Int (returns_nothing place)
      → FailsName ast N3 place
  -- a method is called, or a task made, with another number of arguments than it has parameters
  other_count_of_method : (locals : List LocalName) (returns its : ReturnType) (name : Name) (args number params : ℕ)
      (valued : Bool)
      → Asks ast locals returns (uses name (name_use.Method args valued))
      → binding_of (globals_of ast) locals name.text ≡ Some (bindings.Global (global_kinds.Method number params its))
      → ¬ (params ≡ args)
      → FailsName ast N4 name.place
  other_count_of_task : (locals : List LocalName) (returns its : ReturnType) (name : Name) (args number params : ℕ)
      → Asks ast locals returns (uses name (name_use.Task args))
      → binding_of (globals_of ast) locals name.text ≡ Some (bindings.Global (global_kinds.Task number params its))
      → ¬ (params ≡ args)
      → FailsName ast N4 name.place
  -- a body that returns a value can end without a `return`
  no_return : (decl : Decl)
      → Contains (decls_of ast) decl
      → decl.returns ≡ return_types.Int
      → one_ends decl.body ≡ false
      → FailsName ast N5 (close_of decl.body)
  -- a parameter or a `final` local is assigned
  assigned : (locals : List LocalName) (returns : ReturnType) (name : Name) (number : ℕ) (type : LocalType)
      → Asks ast locals returns (uses name name_use.Target)
      → binding_of (globals_of ast) locals name.text ≡ Some (bindings.Local (local_kinds.Variable number type true))
      → FailsName ast N6 name.place
  -- a declaration brings the number of cells, or that of nodes, over its limit
  too_many_cells : (cell : CellDecl) → GoesOver (cells_of ast.items) cell → FailsName ast N7 cell.name.place
  -- an element of the path of a cell or of an effect exceeds the limit on elements
  long_cell_path : (cell : CellDecl) (elem : CellElem)
      → Contains (cells_of ast.items) cell → StandsAfter max_path_elements cell.path.elems elem → FailsName ast N7 elem.place
  long_path : (decl : Decl) (path : Path) (elem : PathElem)
      → Contains (decls_of ast) decl → Contains (paths_of decl) path
      → StandsAfter max_path_elements path.elems elem
      → FailsName ast N7 elem.place
  -- an effect exceeds the limit on effects of a declaration
  too_many_effects : (decl : Decl) (path : Path)
      → Contains (decls_of ast) decl → StandsAfter max_effects (paths_of decl) path → FailsName ast N7 path.place
  -- a parameter exceeds the limit on parameters
  too_many_params : (decl : Decl) (name : Name)
      → Contains (decls_of ast) decl → StandsAfter max_parameters decl.params name → FailsName ast N7 name.place
  -- there is no `task void main()`
  no_main : ¬ HasMain ast → FailsName ast N8 ast.end
  -- a path has a second `*`
  second_star : (decl : Decl) (path : Path) (elem : PathElem)
      → Contains (decls_of ast) decl → Contains (paths_of decl) path → IsSecondStar path.elems elem → FailsName ast N9 elem.place

-- The number of a rule. Of several rules that fail at one place the one with the lowest number comes first.
abbrev pub name_rule_number : NRule → ℕ
name_rule_number N1 = 1
name_rule_number N2 = 2
name_rule_number N3 = 3
name_rule_number N4 = 4
name_rule_number N5 = 5
name_rule_number N6 = 6
name_rule_number N7 = 7
name_rule_number N8 = 8
name_rule_number N9 = 9

-- a rule of names that fails, and where
abbrev pub NameFailure : Type 0
NameFailure = Failure NRule

-- the failure that comes before all others
abbrev pub IsFirstNameFailure : Ast → NRule → Place → Type 0
IsFirstNameFailure ast rule place = order.IsFirstFailure name_rule_number (FailsName ast) rule place
