-- Texts of effects. The variables of their paths are the parameters of a declaration, or these and its locals.
use Rattle.std.specs.Prelude.{ℕ, Bool, List, [], ◌∷◌, ◌++◌, codes, if◌then◌else◌}
use Rattle.std.specs.List.{flat_map}
use Rattle.effect_sets.specs.declared.effects.Effect.{Effect}
use Rattle.twe_ast.specs.declared.name.Name as written
use Rattle.twe_frontend.specs.meaning.PathTexts.{starred_path_text}

-- `writes `, or `reads ` if it only reads
abbrev pub effect_word : Bool → List ℕ
effect_word write = if write then codes "writes " else codes "reads "

-- `reads A:[j]` or `writes A:*`
abbrev pub effect_text : List (List ℕ) → List written.Name → Effect → List ℕ
effect_text regions variables effect = effect_word effect.write ++ starred_path_text regions variables effect.path

-- effects, each after `, `
abbrev pub more_effects : List (List ℕ) → List written.Name → List Effect → List ℕ
more_effects regions variables effects = flat_map (λ effect. codes ", " ++ effect_text regions variables effect) effects

-- effects with `, ` between them, or `pure`
abbrev pub effects_text : List (List ℕ) → List written.Name → List Effect → List ℕ
effects_text regions variables [] = codes "pure"
effects_text regions variables (effect ∷ effects) =
    effect_text regions variables effect ++ more_effects regions variables effects
