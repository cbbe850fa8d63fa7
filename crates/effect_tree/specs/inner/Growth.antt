-- Which paths are those of the nodes.
use Rattle.std.specs.Prelude.{◌↔◌, ◌⊎◌, List}
use Rattle.std.specs.List.{Any}
use Rattle.region_paths.specs.declared.elements.Elem.{Elem}
use Rattle.region_paths.specs.Filled.{solid_prefix}
use Rattle.prefix_tree.specs.Nodes.{IsNode}
use Rattle.twe_program.specs.declared.program.CellDecl.{CellDecl}
use Rattle.twe_program.specs.Nodes.{console, PathBeginsWith, IsPrefixOfDeclared}

-- the paths of the nodes are these and no others
abbrev pub HasPaths : {A : Type 0} → List (List A) → (List A → Type 0) → Type 0
HasPaths {A} nodes IsPath = (path : List A) → IsNode nodes path ↔ IsPath path

-- a prefix of the path of `Console`, or of a path that one of the cells declares below the solid elements at the front of
-- its path
abbrev pub IsFrontPath : List CellDecl → List Elem → Type 0
IsFrontPath cells path =
    PathBeginsWith console path ⊎ Any (λ (cell : CellDecl). IsPrefixOfDeclared (solid_prefix cell.path) cell.dims path) cells
