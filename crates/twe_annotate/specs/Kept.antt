-- The lines of the methods that keep their clauses when the least summaries are written, and the status.
use Rattle.std.specs.Prelude.{ℕ, List, [], ◌∷◌, ◌++◌, Option, None, Some, codes, if◌then◌else◌}
use Rattle.std.specs.List.{list_all}
use Rattle.std.specs.Option.{is_some}
use Rattle.effect_sets.specs.declared.effects.Summary.{Summary}
use Rattle.twe_ast.specs.declared.name.Name.{Name}
use Rattle.twe_ast.specs.declared.item.Item.{Item}
use Rattle.twe_ast.specs.declared.item.Item.TheVariants.{Regions, Cell, Method, Task}
use Rattle.twe_io.specs.declared.status.Status.{Status}
use Rattle.twe_io.specs.declared.status.Status.TheVariants.{Done, TooMany}
use Rattle.twe_report.specs.Texts.{place_text}
use Rattle.summary_texts.specs.Writable.{is_writable}

-- these words, a name, and its place: `too many effects: f at 3:5`
abbrev pub named_line : List ℕ → Name → List ℕ
named_line words name = words ++ (name.text ++ (codes " at " ++ (place_text name.place ++ 10 ∷ [])))

-- a line for a method whose least summary no text can have
abbrev pub unwritable_line : Name → Summary → List ℕ
unwritable_line name summary = if is_writable summary then [] else named_line (codes "cannot be written: ") name

-- a line for a method that keeps its clause
abbrev pub kept_line : Name → Option Summary → List ℕ
kept_line name None = named_line (codes "too many effects: ") name
kept_line name (Some summary) = unwritable_line name summary

-- a line for each method that keeps its clause, in the order of the declarations
abbrev pub kept_lines : List (Option Summary) → List Item → List ℕ
kept_lines each [] = []
kept_lines each (Regions names ∷ items) = kept_lines each items
kept_lines each (Cell cell ∷ items) = kept_lines each items
kept_lines each (Task deterministic decl ∷ items) = kept_lines each items
kept_lines [] (Method decl ∷ items) = kept_lines [] items
kept_lines (its ∷ each) (Method decl ∷ items) = kept_line decl.name its ++ kept_lines each items

-- the status of a text that is written: some method would have more than 8 effects, or none
abbrev pub write_status : List (Option Summary) → Status
write_status each = if list_all (λ its. is_some its) each then Done else TooMany

-- a text would be too long with the least summaries
abbrev pub long_text : List ℕ
long_text = codes "too long with the least summaries" ++ 10 ∷ []

-- a text would be another one with the least summaries
abbrev pub otherwise_text : List ℕ
otherwise_text = codes "not the same text with the least summaries" ++ 10 ∷ []
