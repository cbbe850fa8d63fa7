-- The new bytes of the summaries of methods.
use Rattle.std.specs.Prelude.{ℕ, List, [], ◌∷◌, Option, None, Some, if◌then◌else◌}
use Rattle.std.specs.List.{flat_map}
use Rattle.effect_sets.specs.declared.effects.Summary.{Summary}
use Rattle.twe_ast.specs.declared.item.Item.{Item}
use Rattle.twe_ast.specs.declared.item.Item.TheVariants.{Regions, Cell, Method, Task}
use Rattle.twe_ast.specs.declared.name.Name as written
use Rattle.summary_texts.specs.Texts.{summary_text}
use Rattle.summary_texts.specs.Writable.{is_writable}

-- the clauses of a summary, if a text can have them
abbrev pub new_clauses : List (List ℕ) → List written.Name → Summary → Option (List ℕ)
new_clauses regions params summary = if is_writable summary then Some (summary_text regions params summary) else None

-- what is written for a method with these parameters; nothing, if there is no summary for it
abbrev pub new_of : List (List ℕ) → List written.Name → Option Summary → Option (List ℕ)
new_of regions params None = None
new_of regions params (Some summary) = new_clauses regions params summary

-- what is written for each method, in the order of the declarations
abbrev pub news_of : List (List ℕ) → List (Option Summary) → List Item → List (Option (List ℕ))
news_of regions each [] = []
news_of regions each (Regions names ∷ items) = news_of regions each items
news_of regions each (Cell cell ∷ items) = news_of regions each items
news_of regions each (Task deterministic decl ∷ items) = news_of regions each items
news_of regions [] (Method decl ∷ items) = news_of regions [] items
news_of regions (its ∷ each) (Method decl ∷ items) = new_of regions decl.params its ∷ news_of regions each items

-- the bytes that are written for a method
abbrev pub bytes_of_new : Option (List ℕ) → List ℕ
bytes_of_new None = []
bytes_of_new (Some text) = text

-- all bytes that are written for methods
abbrev pub bytes_of_news : List (Option (List ℕ)) → List ℕ
bytes_of_news news = flat_map bytes_of_new news
