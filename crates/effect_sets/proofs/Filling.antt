-- Filling the variables of effects.
use Rattle.std.proofs.Common.{◌≡◌, ℤ, IsTrue, List, [], ◌∷◌, map, refl, ap, ap₂}
use Rattle.std.proofs.lemmas.Bool.{and_parts, and_from}
use Rattle.region_paths.specs.declared.elements.Elem.{Elem}
use Rattle.region_paths.specs.Written.{WrittenPath}
use Rattle.region_paths.specs.Arguments.{ArgumentsStand, GivesValue, literals}
use Rattle.region_paths.specs.Filled.{Valuation, filled, has_args, no_var}
use Rattle.region_paths.proofs.Filling.{fill-filled, filled-fill}
use Rattle.region_paths.proofs.Numbers.{fill-literals, fill-within}
use Rattle.effect_sets.specs.declared.effects.Effect.{Effect}
use Rattle.effect_sets.specs.Covers.{EffectWithin}
use Rattle.effect_sets.specs.Filled.{effect_under, fill_effect, all_filled, all_have_args}

pub all_filled-fill : (args : List Elem) (es : List Effect) → IsTrue (all_have_args args es) → IsTrue (no_var args) → IsTrue (all_filled (map (fill_effect args) es))
all_filled-fill args [] h plain = refl
all_filled-fill args (e ∷ es) h plain =
    let parts = and_parts _ _ h in
    and_from _ _ (filled-fill args e.path parts.0 plain) (all_filled-fill args es parts.1 plain)

pub fill_effect-literals : (v : Valuation) (numbers : List ℤ) (e : Effect) → GivesValue v numbers → IsTrue (has_args (literals numbers) e.path) → fill_effect (literals numbers) e ≡ effect_under v e
fill_effect-literals v numbers e gives below =
    let made : WrittenPath → Effect = λ p. record { write = e.write; path = p } in
    ap made (fill-literals v numbers e.path gives below)

pub fill_effect-within : (v : Valuation) (args : List Elem) (numbers : List ℤ) (e : Effect) → ArgumentsStand v args numbers → EffectWithin (effect_under v (fill_effect args e)) (fill_effect (literals numbers) e)
fill_effect-within v args numbers e h = (λ w. w, fill-within v args numbers e.path h)

pub fill_effect-filled : (args : List Elem) (e : Effect) → IsTrue (filled e.path) → fill_effect args e ≡ e
fill_effect-filled args e plain =
    let made : WrittenPath → Effect = λ p. record { write = e.write; path = p } in
    ap made (fill-filled args e.path plain)

pub map-fill_effect-filled : (args : List Elem) (es : List Effect) → IsTrue (all_filled es) → map (fill_effect args) es ≡ es
map-fill_effect-filled args [] plain = refl
map-fill_effect-filled args (e ∷ es) plain =
    let parts = and_parts _ _ plain in
    let cons : Effect → List Effect → List Effect = λ y ys. y ∷ ys in
    ap₂ cons (fill_effect-filled args e parts.0) (map-fill_effect-filled args es parts.1)
