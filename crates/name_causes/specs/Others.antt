-- What a text needs beside names and types: limits that are kept, bodies that end with a `return`, paths with one star, and a
-- `main`.
use Rattle.std.specs.Prelude.{false, List, [], ◌∷◌, ◌++◌, Option, None, Some, codes, length, slice_get, if◌then◌else◌}
use Rattle.std.specs.List.{flat_map}
use Rattle.twe_base.specs.declared.place.Place.{Place}
use Rattle.twe_base.specs.Language.{max_effects}
use Rattle.twe_ast.specs.declared.item.Ast.{Ast}
use Rattle.twe_ast.specs.declared.item.Clause.{Clause}
use Rattle.twe_ast.specs.declared.item.Decl.{Decl}
use Rattle.twe_ast.specs.declared.item.Item.{Item}
use Rattle.twe_ast.specs.declared.item.Item.TheVariants.{Regions, Cell, Method, Task}
use Rattle.twe_ast.specs.declared.path.Path.{Path}
use Rattle.twe_ast.specs.declared.path.PathElem.{PathElem}
use Rattle.name_check.specs.declared.names.GlobalName.{GlobalName}
use Rattle.name_check.specs.Ends.{close_of}
use Rattle.name_check.specs.Limits.{is_star}
use Rattle.name_check.specs.Names.{global_of, globals_of}
use Rattle.name_check.specs.Sites.{sites_of_item}
use Rattle.name_check.specs.OtherFailures.{cell_element_over_limit, element_over_limit, parameter_over_limit, second_star}
use Rattle.name_check.specs.inner.Failures.{is_void}
use Rattle.name_causes.specs.declared.need.NameLimit.TheVariants.{Elements, Effects, Parameters}
use Rattle.name_causes.specs.declared.need.NameNeed.{NameNeed}
use Rattle.name_causes.specs.declared.need.NameNeed.TheVariants.{NoReturn, Over, NoMain, SecondStar}
use Rattle.name_causes.specs.declared.need.PlacedNeed.{PlacedNeed}
use Rattle.name_causes.specs.Needs.{needs_at_sites, placed}

-- the need at the place, if there is a place
abbrev pub need_there : Option Place → NameNeed → List PlacedNeed
need_there None need = []
need_there (Some place) need = placed place need ∷ []

-- the place of the first `*`, if there is one
abbrev pub first_star : List PathElem → Option Place
first_star [] = None
first_star (elem ∷ elems) = if is_star elem then Some elem.place else first_star elems

-- what the path of an effect needs: that no element is over the limit, and that no `*` is the second
abbrev pub needs_of_path : Path → List PlacedNeed
needs_of_path path =
    need_there (element_over_limit path.elems) (Over Elements (length path.elems))
    ++ need_there (second_star false path.elems) (SecondStar (first_star path.elems))

-- the same of the paths of a clause
abbrev pub needs_of_clause : Clause → List PlacedNeed
needs_of_clause clause = flat_map needs_of_path clause.paths

-- the places of paths, and of those of clauses
abbrev pub places_of_paths : List Path → List Place
places_of_paths [] = []
places_of_paths (path ∷ paths) = path.place ∷ places_of_paths paths

abbrev pub places_of_effects : List Clause → List Place
places_of_effects [] = []
places_of_effects (clause ∷ clauses) = places_of_paths clause.paths ++ places_of_effects clauses

-- a body that returns a value needs a `return` before its closing brace
abbrev pub needs_of_end : Decl → List PlacedNeed
needs_of_end decl = if is_void decl.returns then [] else placed (close_of decl.body) (NoReturn decl.name.place) ∷ []

-- what a method or a task needs by itself, without its names and types
abbrev pub needs_of_decl : Decl → List PlacedNeed
needs_of_decl decl =
    need_there (parameter_over_limit decl.params) (Over Parameters (length decl.params))
    ++ (need_there (slice_get (places_of_effects decl.effects) max_effects)
    (Over Effects (length (places_of_effects decl.effects)))
    ++ (flat_map needs_of_clause decl.effects ++ needs_of_end decl))

-- the same of an item
abbrev pub other_needs : Item → List PlacedNeed
other_needs (Regions names) = []
other_needs (Cell cell) = need_there (cell_element_over_limit cell.path.elems) (Over Elements (length cell.path.elems))
other_needs (Method decl) = needs_of_decl decl
other_needs (Task deterministic decl) = needs_of_decl decl

-- what an item needs, of its names and types and by itself
abbrev pub needs_of_item : List GlobalName → Item → List PlacedNeed
needs_of_item globals item = needs_at_sites globals (sites_of_item globals item) ++ other_needs item

-- a text needs a `main` at its end, and the name `main` is bound to this
abbrev pub main_need : Ast → PlacedNeed
main_need ast = placed ast.end (NoMain (global_of (globals_of ast) (codes "main")))

-- what a text needs, in its order
abbrev pub needs_of_text : Ast → List PlacedNeed
needs_of_text ast = flat_map (needs_of_item (globals_of ast)) ast.items ++ main_need ast ∷ []
