-- The clauses of a summary, path by path.
use Rattle.std.specs.Prelude.{ℕ, Bool, true, false, List, [], ◌∷◌, ◌++◌, map}
use Rattle.region_paths.specs.declared.elements.Elem.{Elem}
use Rattle.effect_sets.specs.declared.effects.Summary.{Summary}
use Rattle.twe_ast.specs.declared.item.Clause.{Clause}
use Rattle.twe_ast.specs.declared.name.Name as written
use Rattle.twe_ast.specs.declared.path.Path.{Path}
use Rattle.summary_texts.specs.paste_laws.Clauses.{elem_of, texts_of}
use Rattle.summary_texts.specs.paste_laws.places.Places.{no_place}
use Rattle.summary_texts.specs.Order.{summary_paths_of}

-- a path with these elements
abbrev pub line_path : List (List ℕ) → List written.Name → List Elem → Path
line_path regions params elems = record { elems = map (elem_of regions (texts_of params)) elems; place = no_place }

-- a clause of these paths, if there are any
abbrev pub line_clause : List (List ℕ) → List written.Name → Bool → List (List Elem) → List Clause
line_clause regions params write [] = []
line_clause regions params write (first ∷ others) =
    record { write = write; paths = map (line_path regions params) (first ∷ others) } ∷ []

-- what is only read, and what is written
abbrev pub line_clauses : List (List ℕ) → List written.Name → Summary → List Clause
line_clauses regions params summary =
    line_clause regions params false (summary_paths_of false summary.effects)
    ++ line_clause regions params true (summary_paths_of true summary.effects)
