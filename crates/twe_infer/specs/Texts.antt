-- The lines that are written.
use Rattle.std.specs.Prelude.{ℕ, List, [], ◌∷◌, ◌++◌, codes}
use Rattle.effect_sets.specs.declared.effects.Summary.{Summary}
use Rattle.twe_ast.specs.declared.name.Name as written
use Rattle.twe_ast.specs.declared.item.Item.{Item}
use Rattle.twe_ast.specs.declared.item.Item.TheVariants.{Regions, Cell, Method, Task}
use Rattle.summary_texts.specs.Texts.{summary_text}

-- `get: reads D:[j]`
abbrev pub line_of : List ℕ → List (List ℕ) → List written.Name → Summary → List ℕ
line_of name regions params summary = name ++ (codes ": " ++ (summary_text regions params summary ++ 10 ∷ []))

-- a line for each method, in the order of the declarations
abbrev pub summary_lines_of : List (List ℕ) → List Summary → List Item → List ℕ
summary_lines_of regions summaries [] = []
summary_lines_of regions summaries (Regions names ∷ items) = summary_lines_of regions summaries items
summary_lines_of regions summaries (Cell cell ∷ items) = summary_lines_of regions summaries items
summary_lines_of regions summaries (Task deterministic decl ∷ items) = summary_lines_of regions summaries items
summary_lines_of regions [] (Method decl ∷ items) = summary_lines_of regions [] items
summary_lines_of regions (summary ∷ summaries) (Method decl ∷ items) =
    line_of decl.name.text regions decl.params summary ++ summary_lines_of regions summaries items

-- the usage line of `twe_infer`
abbrev pub infer_usage_text : List ℕ
infer_usage_text = codes "usage: twe_infer" ++ 10 ∷ []

-- `too many effects: f`
abbrev pub too_many_text : List ℕ → List ℕ
too_many_text name = codes "too many effects: " ++ (name ++ 10 ∷ [])
