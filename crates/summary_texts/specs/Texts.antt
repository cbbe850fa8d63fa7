-- The clauses of a summary, as a text has them.
use Rattle.std.specs.Prelude.{ℕ, true, false, List, [], ◌∷◌, ◌++◌, codes}
use Rattle.region_paths.specs.declared.elements.Elem.{Elem}
use Rattle.effect_sets.specs.declared.effects.Summary.{Summary}
use Rattle.twe_ast.specs.declared.name.Name as written
use Rattle.twe_frontend.specs.meaning.PathTexts.{path_text}
use Rattle.summary_texts.specs.Order.{summary_paths_of}

-- the paths, each after `, `
abbrev pub more_paths : List (List ℕ) → List written.Name → List (List Elem) → List ℕ
more_paths regions params [] = []
more_paths regions params (path ∷ paths) = codes ", " ++ (path_text regions params path ++ more_paths regions params paths)

-- the paths, with `, ` between them
abbrev pub paths_text : List (List ℕ) → List written.Name → List (List Elem) → List ℕ
paths_text regions params [] = []
paths_text regions params (path ∷ paths) = path_text regions params path ++ more_paths regions params paths

-- `pure`, or a clause for the paths that are only read and one for those that are written
abbrev pub clauses_text : List (List ℕ) → List written.Name → List (List Elem) → List (List Elem) → List ℕ
clauses_text regions params [] [] = codes "pure"
clauses_text regions params (r ∷ reads) [] = codes "reads " ++ paths_text regions params (r ∷ reads)
clauses_text regions params [] (w ∷ writes) = codes "writes " ++ paths_text regions params (w ∷ writes)
clauses_text regions params (r ∷ reads) (w ∷ writes) =
    codes "reads " ++ (paths_text regions params (r ∷ reads) ++ (codes " writes " ++ paths_text regions params (w ∷ writes)))

-- the clauses of a summary: what is only read and what is written, the paths of each in their order
abbrev pub summary_text : List (List ℕ) → List written.Name → Summary → List ℕ
summary_text regions params summary =
    clauses_text regions params (summary_paths_of false summary.effects) (summary_paths_of true summary.effects)
