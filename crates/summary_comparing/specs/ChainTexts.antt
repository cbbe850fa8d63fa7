-- The lines on what one declaration needs, with a chain of calls for each need.
use Rattle.std.specs.Prelude.{◌≡◌, ◌⊎◌, ℕ, Bool, List, [], ◌∷◌, ◌++◌, Option, None, Some, bytes_eq, codes, if◌then◌else◌}
use Rattle.twe_base.specs.declared.place.Place.{Place}
use Rattle.effect_sets.specs.declared.effects.Effect.{Effect}
use Rattle.effect_sets.specs.declared.effects.Summary.{Summary}
use Rattle.twe_ast.specs.declared.name.Name as written
use Rattle.twe_ast.specs.declared.item.Ast.{Ast}
use Rattle.twe_ast.specs.declared.item.Decl as declared
use Rattle.twe_ast.specs.declared.item.Item.{Item}
use Rattle.twe_ast.specs.declared.item.Item.TheVariants.{Regions, Cell, Method, Task}
use Rattle.twe_program.specs.declared.program.Decl.{Decl}
use Rattle.twe_program.specs.Program.{Program}
use Rattle.twe_frontend.specs.meaning.EffectTexts.{effect_text}
use Rattle.summary_comparing.specs.declared.chain.NeedChain.{NeedChain}
use Rattle.summary_comparing.specs.declared.comparison.Comparison.{Comparison}
use Rattle.summary_comparing.specs.declared.lines.CompareLines.{CompareLines}
use Rattle.summary_comparing.specs.Chained.{IsExplanation}
use Rattle.summary_comparing.specs.Comparisons.{comparison_of}
use Rattle.summary_comparing.specs.Counted.{AreCountedWith}
use Rattle.summary_comparing.specs.CompareTexts.{line_and_column, many_line, wider_text}
use Rattle.summary_comparing.specs.EffectOrder.{in_effect_order}
use Rattle.summary_comparing.specs.Needed.{body_needs, child_needs}
use Rattle.summary_comparing.specs.Widest.{HasManyWidest}

-- places, each after `, `
abbrev pub more_places : List Place → List ℕ
more_places [] = []
more_places (place ∷ places) = codes ", " ++ (line_and_column place ++ more_places places)

-- `12:3, 4:5, 7:9`
abbrev pub places_text : List Place → List ℕ
places_text [] = []
places_text (place ∷ places) = line_and_column place ++ more_places places

-- a chain ends with an access, or `, as declared`
abbrev pub chain_end : Bool → List ℕ
chain_end declared = if declared then codes ", as declared" else []

-- these words, an effect, and ` at `
abbrev pub effect_at : List (List ℕ) → List written.Name → List ℕ → Effect → List ℕ
effect_at regions params words effect = words ++ (effect_text regions params effect ++ codes " at ")

-- `needs writes A:[k] at 12:3, 4:5, 7:9`
abbrev pub need_line : List (List ℕ) → List written.Name → Effect → NeedChain → List ℕ
need_line regions params effect chain =
    effect_at regions params (codes "needs ") effect ++ (places_text chain.places ++ (chain_end chain.declared ++ 10 ∷ []))

-- a line for each effect and its chain
abbrev pub need_lines : List (List ℕ) → List written.Name → List Effect → List NeedChain → List ℕ
need_lines regions params [] chains = []
need_lines regions params (effect ∷ effects) [] = []
need_lines regions params (effect ∷ effects) (chain ∷ chains) =
    need_line regions params effect chain ++ need_lines regions params effects chains

-- `a child declares writes A:[k] at 14:5`
abbrev pub spawn_line : List (List ℕ) → List written.Name → Effect → Place → List ℕ
spawn_line regions params effect place =
    effect_at regions params (codes "a child declares ") effect ++ (line_and_column place ++ 10 ∷ [])

-- a line for each effect and its place
abbrev pub spawn_lines : List (List ℕ) → List written.Name → List Effect → List Place → List ℕ
spawn_lines regions params [] places = []
spawn_lines regions params (effect ∷ effects) [] = []
spawn_lines regions params (effect ∷ effects) (place ∷ places) =
    spawn_line regions params effect place ++ spawn_lines regions params effects places

-- the line of a declaration whose summary is wider than what it needs, if it is, and the lines on what it needs and on what its
-- children declare
unfoldable pub explained_text : List (List ℕ) → declared.Decl → Comparison
    → List Effect → List NeedChain → List Effect → List Place → List ℕ
explained_text regions its comparison needed chains spawned places =
    wider_text regions its comparison
    ++ (need_lines regions its.params needed chains ++ spawn_lines regions its.params spawned places)

-- how the declaration compares with what it needs, of which these are the widest effects
abbrev pub its_comparison : Program → List Summary → Decl → List Effect → List Effect → Comparison
its_comparison p summaries decl needed spawned =
    comparison_of (body_needs p summaries decl) (child_needs p decl) decl.summary.effects needed spawned

-- These are the lines on what a declaration of the program needs, which is written so in the text. A method counts for those that
-- call it with its least summary or, if that would have more than 8 effects, with the declared one.
pub data AreExplained (p : Program) (its : declared.Decl) (decl : Decl) : CompareLines → Type 0 where
  -- the body and the children need at most 8 effects that no other covers
  few : (summaries : List Summary) (needed spawned : List Effect) (chains : List NeedChain) (places : List Place)
      → AreCountedWith p summaries → IsExplanation p summaries decl needed spawned chains places
      → AreExplained p its decl (record {
        wider = explained_text p.regions its (its_comparison p summaries decl needed spawned)
            (in_effect_order needed) chains (in_effect_order spawned) places;
        many = [];
      })
  -- one of the two needs more
  many : (summaries : List Summary) → AreCountedWith p summaries
      → HasManyWidest (body_needs p summaries decl) ⊎ HasManyWidest (child_needs p decl)
      → AreExplained p its decl (record { wider = []; many = many_line its.name })

-- the method or task of the text that has the name
abbrev pub written_as : List ℕ → List Item → Option declared.Decl
written_as name [] = None
written_as name (Regions names ∷ items) = written_as name items
written_as name (Cell cell ∷ items) = written_as name items
written_as name (Method decl ∷ items) = if bytes_eq decl.name.text name then Some decl else written_as name items
written_as name (Task deterministic decl ∷ items) = if bytes_eq decl.name.text name then Some decl else written_as name items

-- the first of the declarations that has the name
abbrev pub declared_as : List ℕ → List Decl → Option Decl
declared_as name [] = None
declared_as name (decl ∷ decls) = if bytes_eq decl.name name then Some decl else declared_as name decls

-- the method or the task of the program that has the name
abbrev pub named_in : List ℕ → Option Decl → List Decl → Option Decl
named_in name None tasks = declared_as name tasks
named_in name (Some method) tasks = Some method

abbrev pub declaration_of : Program → List ℕ → Option Decl
declaration_of p name = named_in name (declared_as name p.methods) p.tasks

-- The lines on the declaration with this name in the program that the tree means; or there are none, since no method and no task
-- has the name.
pub data AreNamedLines (tree : Ast) (p : Program) (name : List ℕ) : Option CompareLines → Type 0 where
  unknown : (written_as name tree.items ≡ None) ⊎ (declaration_of p name ≡ None) → AreNamedLines tree p name None
  explained : (its : declared.Decl) (decl : Decl) (lines : CompareLines) → written_as name tree.items ≡ Some its
      → declaration_of p name ≡ Some decl → AreExplained p its decl lines → AreNamedLines tree p name (Some lines)
