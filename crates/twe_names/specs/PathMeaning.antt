-- What the paths of a text mean.
use Rattle.std.specs.Prelude.{ℕ, pos, false, List, [], ◌∷◌, map, not, length, drop, take_while, Option, Some, flat_map}
use Rattle.std.specs.List.{list_any}
use Rattle.region_paths.specs.declared.elements.Elem.{Elem}
use Rattle.region_paths.specs.declared.elements.Elem.TheVariants as elems
use Rattle.region_paths.specs.Written.{WrittenPath}
use Rattle.effect_sets.specs.declared.effects.Effect.{Effect}
use Rattle.effect_sets.specs.declared.effects.Summary.{Summary}
use Rattle.twe_ast.specs.declared.item.Clause.{Clause}
use Rattle.twe_ast.specs.declared.item.Decl.{Decl}
use Rattle.twe_ast.specs.declared.path.Path.{Path}
use Rattle.twe_ast.specs.declared.path.PathElem.{PathElem}
use Rattle.twe_ast.specs.declared.path.PathElemKind.{PathElemKind}
use Rattle.twe_ast.specs.declared.path.PathElemKind.TheVariants as elem_kinds
use Rattle.twe_ast.specs.declared.path.CellPath.{CellPath}
use Rattle.twe_ast.specs.declared.path.CellElem.{CellElem}
use Rattle.twe_ast.specs.declared.path.CellElemKind.{CellElemKind}
use Rattle.twe_ast.specs.declared.path.CellElemKind.TheVariants as cell_kinds
use Rattle.name_check.specs.declared.binding.Global.{Global}
use Rattle.name_check.specs.declared.binding.Global.TheVariants as global_kinds
use Rattle.name_check.specs.declared.binding.Local.{Local}
use Rattle.name_check.specs.declared.binding.Local.TheVariants as local_kinds
use Rattle.name_check.specs.declared.names.GlobalName.{GlobalName}
use Rattle.name_check.specs.declared.scope.LocalName.{LocalName}
use Rattle.name_check.specs.Names.{first_local, global_of}
use Rattle.name_check.specs.BodyScope.{params_of}
use Rattle.name_check.specs.Limits.{is_star}

-- the number of a region; 0 if a rule of names fails there, as in the other definitions of numbers
abbrev pub region_number : Option Global → ℕ
region_number (Some (global_kinds.Region number)) = number
region_number _ = 0

-- the number of a parameter, in the same way
abbrev pub param_number : Option Local → ℕ
param_number (Some (local_kinds.Variable number local_type constant)) = number
param_number _ = 0

-- an element of the path of an effect; a `*` is none
abbrev pub elem_of_kind : List GlobalName → List LocalName → PathElemKind → List Elem
elem_of_kind globals params (elem_kinds.Name text) = elems.Name (region_number (global_of globals text)) ∷ []
elem_of_kind globals params (elem_kinds.Index index) = elems.Index (pos index) ∷ []
elem_of_kind globals params (elem_kinds.Variable name) = elems.Var (param_number (first_local name.text params)) ∷ []
elem_of_kind globals params elem_kinds.AnyIndex = elems.AnyIndex ∷ []
elem_of_kind globals params elem_kinds.Star = []

-- these elements of the path of an effect, without a `*` among them
abbrev pub elems_of : List GlobalName → List LocalName → List PathElem → List Elem
elems_of globals params elems = flat_map (λ (elem : PathElem). elem_of_kind globals params elem.kind) elems

-- the elements before the first `*`
abbrev pub before_star : List PathElem → List PathElem
before_star elems = take_while (λ elem. not (is_star elem)) elems

-- the elements from the first `*` on
abbrev pub after_star : List PathElem → List PathElem
after_star elems = drop (length (before_star elems)) elems

-- a path: the elements before its `*`, whether it has one, and the elements after it
abbrev pub path_meaning : List GlobalName → List LocalName → Path → WrittenPath
path_meaning globals params path = record {
  elems = elems_of globals params (before_star path.elems);
  star = list_any is_star path.elems;
  tail = elems_of globals params (after_star path.elems);
}

-- the effects of a clause: one for each of its paths
abbrev pub effects_of_clause : List GlobalName → List LocalName → Clause → List Effect
effects_of_clause globals params clause =
    map (λ (path : Path). record { write = clause.write; path = path_meaning globals params path }) clause.paths

-- the summary of a declaration: the effects of its clauses in order
abbrev pub summary_meaning : List GlobalName → Decl → Summary
summary_meaning globals decl = record { effects = flat_map (effects_of_clause globals (params_of decl)) decl.effects }

-- an element of the path of a cell
abbrev pub elem_of_cell_kind : List GlobalName → CellElemKind → Elem
elem_of_cell_kind globals (cell_kinds.Name text) = elems.Name (region_number (global_of globals text))
elem_of_cell_kind globals (cell_kinds.Index index) = elems.Index (pos index)

-- the path of a cell, which has no `*`
abbrev pub cell_path_of : List GlobalName → CellPath → WrittenPath
cell_path_of globals path = record {
  elems = map (λ (elem : CellElem). elem_of_cell_kind globals elem.kind) path.elems;
  star = false;
  tail = [];
}
