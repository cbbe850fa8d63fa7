-- The line of one spawn, and those of the others.
use Rattle.std.proofs.Common.{◌≡◌, ℕ, List, ◌∷◌, ◌++◌, sym, ap, ◌∙◌}
use Rattle.twe_base.specs.declared.place.Place.{Place}
use Rattle.effect_sets.specs.declared.effects.Effect.{Effect}
use Rattle.twe_ast.specs.declared.name.Name as written
use Rattle.summary_comparing.specs.ChainTexts.{spawn_line, spawn_lines}
use Rattle.summary_comparing.proofs.Compared.{appended}

pub spawn-more : (regions : List (List ℕ)) (params : List written.Name) (effects others : List Effect) (effect : Effect)
    (places rest : List Place) (place : Place) (before between after : List ℕ) → effects ≡ effect ∷ others → places ≡ place ∷ rest
    → between ≡ before ++ spawn_line regions params effect place → after ≡ between ++ spawn_lines regions params others rest
    → after ≡ before ++ spawn_lines regions params effects places
spawn-more regions params effects others effect places rest place before between after e f one two =
    appended before between after (spawn_line regions params effect place) (spawn_lines regions params others rest) one two
    ∙ ap (λ (lines : List ℕ). before ++ lines)
    (sym (ap (λ (es : List Effect). spawn_lines regions params es places) e
    ∙ ap (λ (ps : List Place). spawn_lines regions params (effect ∷ others) ps) f))
