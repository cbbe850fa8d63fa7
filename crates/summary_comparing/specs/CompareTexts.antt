-- The lines on declared summaries that are wider than what is needed.
use Rattle.std.specs.Prelude.{◌≡◌, ℕ, List, [], ◌∷◌, ◌++◌, codes, decimal}
use Rattle.twe_base.specs.declared.place.Place.{Place}
use Rattle.effect_sets.specs.declared.effects.Effect.{Effect}
use Rattle.effect_sets.specs.declared.effects.Summary.{Summary}
use Rattle.twe_ast.specs.declared.name.Name as written
use Rattle.twe_ast.specs.declared.item.Ast.{Ast}
use Rattle.twe_ast.specs.declared.item.Decl as declared
use Rattle.twe_ast.specs.declared.item.Item.{Item}
use Rattle.twe_ast.specs.declared.item.Item.TheVariants.{Regions, Cell, Method, Task}
use Rattle.twe_program.specs.Program.{Program}
use Rattle.twe_frontend.specs.meaning.EffectTexts.{effects_text}
use Rattle.summary_comparing.specs.declared.comparison.Comparison.{Comparison}
use Rattle.summary_comparing.specs.declared.comparison.Comparison.TheVariants.{Exact, Wider, TooMany}
use Rattle.summary_comparing.specs.declared.lines.CompareLines.{CompareLines}
use Rattle.summary_comparing.specs.Comparisons.{AreComparisons}
use Rattle.summary_comparing.specs.Counted.{AreCountedWith}
use Rattle.summary_comparing.specs.EffectOrder.{in_effect_order}

-- these words and the effects
abbrev pub effects_part : List (List ℕ) → List written.Name → List ℕ → List Effect → List ℕ
effects_part regions params words effects = words ++ effects_text regions params effects

-- the same, if there are any effects
abbrev pub part_if_any : List (List ℕ) → List written.Name → List ℕ → List Effect → List ℕ
part_if_any regions params words [] = []
part_if_any regions params words (effect ∷ effects) = effects_part regions params words (effect ∷ effects)

-- `: declares writes A, writes B; needs writes A; nothing needs writes B`
unfoldable pub wider_clauses : List (List ℕ) → List written.Name → List Effect → List Effect → List Effect → List Effect → List ℕ
wider_clauses regions params declares needed children idle =
    effects_part regions params (codes ": declares ") declares
    ++ (effects_part regions params (codes "; needs ") needed
    ++ (part_if_any regions params (codes "; children declare ") children
    ++ part_if_any regions params (codes "; nothing needs ") idle))

-- `f: declares writes A, writes B; needs writes A; nothing needs writes B`: declared effects are written in the order of the text
abbrev pub wider_line : List (List ℕ) → declared.Decl → List Effect → List Effect → List Effect → List Effect → List ℕ
wider_line regions decl declares needed children idle =
    decl.name.text
    ++ (wider_clauses regions decl.params declares (in_effect_order needed) (in_effect_order children) idle ++ 10 ∷ [])

-- `3:8`
abbrev pub line_and_column : Place → List ℕ
line_and_column place = decimal place.line ++ (codes ":" ++ decimal place.col)

-- these words, a name, and its place
abbrev pub name_line : List ℕ → written.Name → List ℕ
name_line words name = words ++ (name.text ++ (codes " at " ++ (line_and_column name.place ++ 10 ∷ [])))

-- `too many effects: f at 3:8`
abbrev pub many_line : written.Name → List ℕ
many_line name = name_line (codes "too many effects: ") name

-- the line of a declaration, if its declared summary is wider than what it needs
abbrev pub wider_text : List (List ℕ) → declared.Decl → Comparison → List ℕ
wider_text regions decl Exact = []
wider_text regions decl (Wider declares needed children idle) = wider_line regions decl declares needed children idle
wider_text regions decl TooMany = []

-- the line of a declaration that needs too many effects
abbrev pub many_text : declared.Decl → Comparison → List ℕ
many_text decl Exact = []
many_text decl (Wider declares needed children idle) = []
many_text decl TooMany = many_line decl.name

-- what is written of each method and of each task, in the order of the declarations
abbrev pub decl_texts : (declared.Decl → Comparison → List ℕ) → List Item → List Comparison → List Comparison → List ℕ
decl_texts text [] methods tasks = []
decl_texts text (Regions names ∷ items) methods tasks = decl_texts text items methods tasks
decl_texts text (Cell cell ∷ items) methods tasks = decl_texts text items methods tasks
decl_texts text (Method decl ∷ items) [] tasks = decl_texts text items [] tasks
decl_texts text (Method decl ∷ items) (method ∷ methods) tasks = text decl method ++ decl_texts text items methods tasks
decl_texts text (Task deterministic decl ∷ items) methods [] = decl_texts text items methods []
decl_texts text (Task deterministic decl ∷ items) methods (task ∷ tasks) = text decl task ++ decl_texts text items methods tasks

-- the lines of these comparisons
abbrev pub comparison_lines : List (List ℕ) → List Item → List Comparison → List Comparison → CompareLines
comparison_lines regions items methods tasks = record {
  wider = decl_texts (wider_text regions) items methods tasks;
  many = decl_texts many_text items methods tasks;
}

-- These are the lines of the program that the tree means: each method and each task is compared with what it needs, where a
-- method counts for those that call it with its least summary or, if that would have more than 8 effects, with the declared
-- one.
pub record AreCompareLines (tree : Ast) (p : Program) (lines : CompareLines) : Type 0 where
  pub summaries : List Summary
  pub counted : AreCountedWith p summaries
  pub methods : List Comparison
  pub methods_compared : AreComparisons p summaries p.methods methods
  pub tasks : List Comparison
  pub tasks_compared : AreComparisons p summaries p.tasks tasks
  pub written : lines ≡ comparison_lines p.regions tree.items methods tasks
