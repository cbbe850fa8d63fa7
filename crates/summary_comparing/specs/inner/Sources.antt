-- Where an effect comes from that a body needs: the first step, the first effect of a summary, and the first spawn that needs it.
use Rattle.std.specs.Prelude.{ℕ, suc, Bool, List, [], ◌∷◌, if◌then◌else◌}
use Rattle.std.specs.List.{list_any}
use Rattle.region_paths.specs.declared.elements.Elem.{Elem}
use Rattle.effect_sets.specs.declared.effects.Effect.{Effect}
use Rattle.effect_sets.specs.declared.effects.Summary.{Summary}
use Rattle.effect_sets.specs.Filled.{fill_effect}
use Rattle.effect_check.specs.declared.act.Act.{Act}
use Rattle.effect_infer.specs.declared.needs.need.BodyStep.{BodyStep}
use Rattle.summary_comparing.specs.Needed.{said_effect, said_spawn}
use Rattle.summary_comparing.specs.inner.Differing.{numbered_needs}
use Rattle.summary_comparing.specs.inner.SameEffects.{same_effect}

-- the effect is one of these
abbrev pub has_effect : List Effect → Effect → Bool
has_effect effects effect = list_any (λ other. same_effect other effect) effects

-- how many elements stand before the first that passes the test
abbrev pub before_first : {X : Type 0} → (X → Bool) → List X → ℕ
before_first test [] = 0
before_first test (x ∷ xs) = if test x then 0 else suc (before_first test xs)

-- how many of the numbers stand before the first whose step needs the effect
abbrev pub steps_before : List Summary → ℕ → List BodyStep → List ℕ → Effect → ℕ
steps_before summaries params steps numbers effect =
    before_first (λ number. has_effect (numbered_needs summaries params steps number) effect) numbers

-- how many effects of a called method stand before the first that is this one, as the caller says it
abbrev pub effects_before : ℕ → List Elem → List Effect → Effect → ℕ
effects_before params args effects effect =
    before_first (λ its. same_effect (said_effect params (fill_effect args its)) effect) effects

-- how many acts stand before the first that is a spawn which needs the effect
abbrev pub acts_before : ℕ → List Act → Effect → ℕ
acts_before params acts effect = before_first (λ act. has_effect (said_spawn params act) effect) acts
