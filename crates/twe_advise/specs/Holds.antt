-- The pairs of declared effects that held most, as they are written for people. An effect is written as it is declared, with the
-- names of the parameters of its task.
use Rattle.std.specs.Prelude.{◌++◌, ℕ, List, [], ◌∷◌, Option, None, Some, codes, decimal, slice_get}
use Rattle.std.specs.List.{flat_map}
use Rattle.twe_base.specs.declared.place.Place.{Place}
use Rattle.effect_sets.specs.declared.effects.Effect.{Effect}
use Rattle.twe_ast.specs.declared.item.Item.{Item}
use Rattle.twe_ast.specs.declared.name.Name.{Name}
use Rattle.twe_program.specs.declared.program.Decl.{Decl}
use Rattle.twe_program.specs.Program.{Program}
use Rattle.held_span.specs.declared.pair.DeclaredEffect.{DeclaredEffect}
use Rattle.held_span.specs.declared.pair.HeldPair.{HeldPair}
use Rattle.twe_frontend.specs.meaning.EffectTexts.{effect_text}
use Rattle.run_texts.specs.TaskLabels.{decl_name}
use Rattle.twe_advise.specs.Parameters.{task_params}
use Rattle.twe_advise.specs.Texts.{number_column}

-- an effect that was looked up
abbrev pub effect_found : List (List ℕ) → List Name → Option Effect → List ℕ
effect_found regions params None = []
effect_found regions params (Some effect) = effect_text regions params effect

-- the effect of this number of a declaration that was looked up, whose parameters have these names
abbrev pub numbered_effect : List (List ℕ) → List Name → Option Decl → ℕ → List ℕ
numbered_effect regions params None number = []
numbered_effect regions params (Some decl) number = effect_found regions params (slice_get decl.summary.effects number)

-- a declared effect, as `writes D:[i]`
abbrev pub declared_effect : Program → List Item → DeclaredEffect → List ℕ
declared_effect p items its = numbered_effect p.regions (task_params items its.decl) (slice_get p.tasks its.decl) its.effect

-- a place, as ` 3:6`
abbrev pub spaced_place : Place → List ℕ
spaced_place place = codes " " ++ (decimal place.line ++ (codes ":" ++ decimal place.col))

-- the place of a declaration that was looked up
abbrev pub place_found : Option Decl → List ℕ
place_found None = []
place_found (Some decl) = spaced_place decl.place

-- a declared effect with the name and the place of its declaration, as `` `writes D:[i]` of inc 3:6``
abbrev pub effect_placed : Program → List Item → DeclaredEffect → List ℕ
effect_placed p items its =
    codes "`" ++ (declared_effect p items its
    ++ (codes "` of " ++ (decl_name (slice_get p.tasks its.decl) ++ place_found (slice_get p.tasks its.decl))))

-- how long and how often a pair held tasks, and its effects
abbrev pub pair_row : Program → List Item → HeldPair → List ℕ
pair_row p items held =
    number_column held.time
    ++ (number_column held.admissions
    ++ (codes "  "
    ++ (effect_placed p items held.pair.holder ++ (codes " held " ++ (effect_placed p items held.pair.held ++ codes "\n")))))

-- the table of pairs, which is left out if nothing was held
abbrev pub holds_text : Program → List Item → List HeldPair → List ℕ
holds_text p items [] = []
holds_text p items (pair ∷ pairs) =
    codes "\n        held  admissions  effects that held most\n" ++ flat_map (pair_row p items) (pair ∷ pairs)
