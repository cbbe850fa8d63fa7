-- The failures that no use of a name causes: of limits, ends of bodies and second stars.
use Rattle.std.specs.Prelude.{Bool, true, false, not, ◌&&◌, if◌then◌else◌, List, [], ◌∷◌, ◌++◌, Option, None, Some, slice_get}
use Rattle.std.specs.Option.{option_map}
use Rattle.twe_base.specs.declared.place.Place.{Place}
use Rattle.twe_base.specs.Language.{max_effects, max_parameters, max_path_elements}
use Rattle.twe_ast.specs.declared.item.Clause.{Clause}
use Rattle.twe_ast.specs.declared.item.Decl.{Decl}
use Rattle.twe_ast.specs.declared.item.Item.{Item}
use Rattle.twe_ast.specs.declared.item.Item.TheVariants as items
use Rattle.twe_ast.specs.declared.name.Name.{Name}
use Rattle.twe_ast.specs.declared.path.CellElem.{CellElem}
use Rattle.twe_ast.specs.declared.path.Path.{Path}
use Rattle.twe_ast.specs.declared.path.PathElem.{PathElem}
use Rattle.name_check.specs.declared.rule.NRule.{NRule}
use Rattle.name_check.specs.declared.rule.NRule.TheVariants.{N5, N7, N9}
use Rattle.name_check.specs.FailsName.{NameFailure}
use Rattle.name_check.specs.Ends.{one_ends, close_of}
use Rattle.name_check.specs.Limits.{is_star, paths_of}
use Rattle.name_check.specs.inner.Failures.{is_void}
use Rattle.twe_base.specs.First.{failure_if}

-- the failure of this rule at the place, if there is a place
abbrev pub failures_of_place : NRule → Option Place → List NameFailure
failures_of_place rule None = []
failures_of_place rule (Some place) = record { rule = rule; place = place } ∷ []

-- the place of the first parameter that exceeds the limit on parameters, if one does
abbrev pub parameter_over_limit : List Name → Option Place
parameter_over_limit names = option_map (λ (name : Name). name.place) (slice_get names max_parameters)

-- the place of the first path that exceeds the limit on effects, if one does
abbrev pub path_over_limit : List Path → Option Place
path_over_limit paths = option_map (λ (path : Path). path.place) (slice_get paths max_effects)

-- the place of the first element of an effect's path that exceeds the limit on elements, if one does
abbrev pub element_over_limit : List PathElem → Option Place
element_over_limit elems = option_map (λ (elem : PathElem). elem.place) (slice_get elems max_path_elements)

-- the place of the first element of a cell's path that exceeds the limit on elements, if one does
abbrev pub cell_element_over_limit : List CellElem → Option Place
cell_element_over_limit elems = option_map (λ (elem : CellElem). elem.place) (slice_get elems max_path_elements)

-- the place of the second `*`, or of the first if there was one before
abbrev pub second_star : Bool → List PathElem → Option Place
second_star before [] = None
second_star false (elem ∷ elems) = second_star (is_star elem) elems
second_star true (elem ∷ elems) = if is_star elem then Some elem.place else second_star true elems

-- the failures of an effect's path: an element over the limit, and a second `*`
abbrev pub path_failures : Path → List NameFailure
path_failures path = failures_of_place N7 (element_over_limit path.elems) ++ failures_of_place N9 (second_star false path.elems)

-- the failures of the paths of a clause
abbrev pub paths_failures : List Path → List NameFailure
paths_failures [] = []
paths_failures (path ∷ paths) = path_failures path ++ paths_failures paths

-- the failures of the clauses of a declaration
abbrev pub clauses_failures : List Clause → List NameFailure
clauses_failures [] = []
clauses_failures (clause ∷ clauses) = paths_failures clause.paths ++ clauses_failures clauses

-- a body that returns a value can end without a `return`
abbrev pub lacks_return : Decl → Bool
lacks_return decl = not (is_void decl.returns) && not (one_ends decl.body)

-- the failures of a method or a task: of its parameters, of its effects, and of the end of its body
abbrev pub decl_failures : Decl → List NameFailure
decl_failures decl =
    failures_of_place N7 (parameter_over_limit decl.params)
    ++ (failures_of_place N7 (path_over_limit (paths_of decl))
    ++ (clauses_failures decl.effects ++ failure_if (lacks_return decl) N5 (close_of decl.body)))

-- the failures of an item by itself, without its names and types
abbrev pub item_failures : Item → List NameFailure
item_failures (items.Regions names) = []
item_failures (items.Cell cell) = failures_of_place N7 (cell_element_over_limit cell.path.elems)
item_failures (items.Method decl) = decl_failures decl
item_failures (items.Task deterministic decl) = decl_failures decl
