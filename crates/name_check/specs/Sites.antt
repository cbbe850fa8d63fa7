-- The places at which a text needs something, each with its scope.
use Rattle.std.specs.Prelude.{ℕ, ◌+◌, true, false, List, [], ◌∷◌, ◌++◌, map, length, Option, None, Some}
use Rattle.twe_base.specs.declared.place.Place.{Place}
use Rattle.std.specs.List.{flat_map}
use Rattle.twe_ast.specs.declared.item.Ast.{Ast}
use Rattle.twe_ast.specs.declared.item.Item.{Item}
use Rattle.twe_ast.specs.declared.item.Item.TheVariants as items
use Rattle.twe_ast.specs.declared.item.Decl.{Decl}
use Rattle.twe_ast.specs.declared.item.Clause.{Clause}
use Rattle.twe_ast.specs.declared.item.ReturnType.{ReturnType}
use Rattle.twe_ast.specs.declared.item.ReturnType.TheVariants as return_types
use Rattle.twe_ast.specs.declared.name.Name.{Name}
use Rattle.twe_ast.specs.declared.path.Path.{Path}
use Rattle.twe_ast.specs.declared.path.PathElem.{PathElem}
use Rattle.twe_ast.specs.declared.path.PathElemKind.{PathElemKind}
use Rattle.twe_ast.specs.declared.path.PathElemKind.TheVariants as elem_kinds
use Rattle.twe_ast.specs.declared.path.CellPath.{CellPath}
use Rattle.twe_ast.specs.declared.path.CellElemKind.{CellElemKind}
use Rattle.twe_ast.specs.declared.path.CellElem.{CellElem}
use Rattle.twe_ast.specs.declared.path.CellElemKind.TheVariants as cell_kinds
use Rattle.twe_ast.specs.declared.stmt.LocalType.{LocalType}
use Rattle.twe_ast.specs.declared.stmt.LocalType.TheVariants.{Int, Boolean}
use Rattle.twe_ast.specs.Expression.{Expression}
use Rattle.twe_ast.specs.Statement.{Statement, Block, Let, Set, SetArray, SetGrid, If, While, Return, Print, Call, Make, Wait, LetWait, Statements, end_of_block, statement, Arms, arm, otherwise, no_else}
use Rattle.name_check.specs.declared.binding.NameUse.TheVariants as name_use
use Rattle.name_check.specs.declared.binding.Local.TheVariants as local_kinds
use Rattle.name_check.specs.declared.binding.Binding.{Binding}
use Rattle.name_check.specs.declared.binding.Binding.TheVariants as bindings
use Rattle.name_check.specs.declared.names.GlobalName.{GlobalName}
use Rattle.name_check.specs.declared.scope.LocalName.{LocalName}
use Rattle.name_check.specs.Names.{globals_of, binding_of}
use Rattle.name_check.specs.declared.scope.BodyScope.{BodyScope}
use Rattle.name_check.specs.BodyScope.{counted_binding, after, after_block, params_of, params_from}
use Rattle.name_check.specs.Types.{argument_count}
use Rattle.name_check.specs.Asks.{Ask, uses, declares, returns_value, returns_nothing, asks_of, asks_of_all, place_of}

-- something that is needed, the names in scope there beside the global ones, and what the declaration around it returns
pub record Site : Type 0 where
  pub locals : List LocalName
  pub returns : ReturnType
  pub ask : Ask

-- the sites of several needs that have one scope and stand in one declaration
abbrev pub sites_at : List LocalName → ReturnType → List Ask → List Site
sites_at locals returns asks = map (λ ask. record { locals = locals; returns = returns; ask = ask }) asks

-- the type that an assigned value needs: that of the local, and otherwise `int`
abbrev pub target_type : Option Binding → LocalType
target_type (Some (bindings.Local (local_kinds.Variable number local_type constant))) = local_type
target_type _ = Int

-- what one statement needs by itself, without the blocks in it
abbrev pub asks_of_return : List GlobalName → List LocalName → Option Expression → Ask → List Ask
asks_of_return globals locals None nothing = nothing ∷ []
asks_of_return globals locals (Some value) nothing = returns_value (place_of value) ∷ asks_of globals locals (Some Int) value

-- what statements need, in all of their parts
abbrev mutual
  pub sites_in : List GlobalName → ReturnType → BodyScope → Statement → List Site
  sites_in globals returns here (Block body) = sites_in_all globals returns (counted_binding here) body
  sites_in globals returns here (Let is_final local_type name value) =
      sites_at here.locals returns (declares name ∷ asks_of globals here.locals (Some local_type) value)
  sites_in globals returns here (Set name value) =
      sites_at here.locals returns
      (uses name name_use.Target
      ∷ asks_of globals here.locals (Some (target_type (binding_of globals here.locals name.text))) value)
  sites_in globals returns here (SetArray array index value) =
      sites_at here.locals returns
      (uses array (name_use.Array 1) ∷ (asks_of globals here.locals (Some Int) index
      ++ asks_of globals here.locals (Some Int) value))
  sites_in globals returns here (SetGrid array row column value) =
      sites_at here.locals returns
      (uses array (name_use.Array 2) ∷ (asks_of globals here.locals (Some Int) row
      ++ (asks_of globals here.locals (Some Int) column ++ asks_of globals here.locals (Some Int) value)))
  sites_in globals returns here (If arms) = sites_in_arms globals returns (counted_binding here) arms
  sites_in globals returns here (While place condition body) =
      sites_at here.locals returns (asks_of globals here.locals (Some Boolean) condition)
      ++ sites_in_all globals returns (counted_binding here) body
  sites_in globals returns here (Return place value) =
      sites_at here.locals returns (asks_of_return globals here.locals value (returns_nothing place))
  sites_in globals returns here (Print place value) = sites_at here.locals returns (asks_of globals here.locals (Some Int) value)
  sites_in globals returns here (Call method args) =
      sites_at here.locals returns
      (uses method (name_use.Method (argument_count args) false) ∷ asks_of_all globals here.locals args)
  sites_in globals returns here (Make future task spawned args) =
      sites_at here.locals returns
      (declares future ∷ uses task (name_use.Task (argument_count args)) ∷ asks_of_all globals here.locals args)
  sites_in globals returns here (Wait wait) =
      sites_at here.locals returns (uses wait.future (name_use.Future wait.join false) ∷ [])
  sites_in globals returns here (LetWait is_final name wait) =
      sites_at here.locals returns (declares name ∷ uses wait.future (name_use.Future wait.join true) ∷ [])

  pub sites_in_all : List GlobalName → ReturnType → BodyScope → Statements → List Site
  sites_in_all globals returns here (end_of_block close) = []
  sites_in_all globals returns here (statement first others) =
      sites_in globals returns here first ++ sites_in_all globals returns (after globals here first) others

  pub sites_in_arms : List GlobalName → ReturnType → BodyScope → Arms → List Site
  sites_in_arms globals returns here (arm condition body others) =
      sites_at here.locals returns (asks_of globals here.locals (Some Boolean) condition)
      ++ (sites_in_all globals returns here body ++ sites_in_arms globals returns (after_block globals here body) others)
  sites_in_arms globals returns here (otherwise body) = sites_in_all globals returns here body
  sites_in_arms globals returns here no_else = []

-- the parameters get their names one after another
abbrev pub sites_of_params : ReturnType → List LocalName → ℕ → List Name → List Site
sites_of_params returns before number [] = []
sites_of_params returns before number (name ∷ names) = record {
  locals = before;
  returns = returns;
  ask = declares name;
} ∷ sites_of_params returns (before ++ params_from number (name ∷ [])) (number + 1) names

-- what an element of a path needs: a region for a name, and a parameter for a name in brackets
abbrev pub asks_of_kind : PathElemKind → Place → List Ask
asks_of_kind (elem_kinds.Name text) place = uses (record { text = text; place = place }) name_use.Region ∷ []
asks_of_kind (elem_kinds.Index index) place = []
asks_of_kind (elem_kinds.Variable name) place = uses name name_use.Parameter ∷ []
asks_of_kind elem_kinds.AnyIndex place = []
asks_of_kind elem_kinds.Star place = []

-- what the elements of an effect's path need
abbrev pub asks_of_path : Path → List Ask
asks_of_path path = flat_map (λ (elem : PathElem). asks_of_kind elem.kind elem.place) path.elems

-- what the paths of a clause of effects need
abbrev pub asks_of_clause : Clause → List Ask
asks_of_clause clause = flat_map asks_of_path clause.paths

-- what an element of a cell's path needs: a region for a name
abbrev pub asks_of_cell_kind : CellElemKind → Place → List Ask
asks_of_cell_kind (cell_kinds.Name text) place = uses (record { text = text; place = place }) name_use.Region ∷ []
asks_of_cell_kind (cell_kinds.Index index) place = []

-- what the elements of a cell's path need
abbrev pub asks_of_cell_path : CellPath → List Ask
asks_of_cell_path path = flat_map (λ (elem : CellElem). asks_of_cell_kind elem.kind elem.place) path.elems

-- the scope at the start of a body: its parameters
abbrev pub at_body : Decl → BodyScope
at_body decl = record { locals = params_of decl; points = 0; vars = length decl.params; futures = 0 }

-- what a declaration needs: in its parameters, its effects and its body
abbrev pub sites_of_decl : List GlobalName → Decl → List Site
sites_of_decl globals decl =
    sites_of_params decl.returns [] 0 decl.params
    ++ (sites_at (params_of decl) decl.returns (flat_map asks_of_clause decl.effects)
    ++ sites_in_all globals decl.returns (at_body decl) decl.body)

-- what an item needs: of a cell its path, of a method or a task its whole declaration
abbrev pub sites_of_item : List GlobalName → Item → List Site
sites_of_item globals (items.Regions names) = []
sites_of_item globals (items.Cell cell) = sites_at [] return_types.Void (asks_of_cell_path cell.path)
sites_of_item globals (items.Method decl) = sites_of_decl globals decl
sites_of_item globals (items.Task deterministic decl) = sites_of_decl globals decl

-- what a text needs, in its order
abbrev pub sites_of : Ast → List Site
sites_of ast = flat_map (sites_of_item (globals_of ast)) ast.items
