-- The first that needs an effect is there.
use Rattle.std.proofs.Common.{◌≡◌, ◌⊎◌, ℕ, suc, Bool, true, false, List, [], ◌∷◌, map, Some, if◌then◌else◌, inl, inr, refl, sym, ap, ◌∙◌, subst}
use Rattle.std.specs.Prelude.{slice_get}
use Rattle.std.specs.List.{flat_map}
use Rattle.std.proofs.lemmas.Bool.{false≢true}
use Rattle.twe_base.proofs.Members.{IsIn, flat_map-in, in-list_any, list_any-in}
use Rattle.region_paths.specs.declared.elements.Elem.{Elem}
use Rattle.effect_sets.specs.declared.effects.Effect.{Effect}
use Rattle.effect_sets.specs.Filled.{fill_effect}
use Rattle.summary_comparing.specs.Needed.{said_effect}
use Rattle.summary_comparing.specs.inner.SameEffects.{same_effect}
use Rattle.summary_comparing.specs.inner.Sources.{before_first, effects_before, has_effect}
use Rattle.summary_comparing.proofs.SameEffects.{effect-eq, effect-refl}

-- where one passes the test, the first that does is there
first-found : {X : Type 0} (test : X → Bool) (xs : List X) (x : X) → IsIn x xs → test x ≡ true
    → (y : X) × (slice_get xs (before_first test xs) ≡ Some y) × (test y ≡ true)
first-found test [] x h is = absurd h
first-found {X} test (z ∷ zs) x h is = by-test (λ later. first-found test zs x later is) (test z) refl h where
  by-test : (IsIn x zs → (y : X) × (slice_get zs (before_first test zs) ≡ Some y) × (test y ≡ true))
      → (b : Bool) → test z ≡ b → (x ≡ z) ⊎ IsIn x zs
      → (y : X) × (slice_get (z ∷ zs) (if b then 0 else suc (before_first test zs)) ≡ Some y) × (test y ≡ true)
  by-test rest true passes there = (z, refl, passes)
  by-test rest false fails (inl same) = absurd (false≢true (sym fails ∙ (ap test (sym same) ∙ is)))
  by-test rest false fails (inr later) = rest later

-- the effect is among what the first one needs
pub source-found : {X : Type 0} (needs : X → List Effect) (xs : List X) (effect : Effect) → IsIn effect (flat_map needs xs)
    → (y : X) × (slice_get xs (before_first (λ x. has_effect (needs x) effect) xs) ≡ Some y) × IsIn effect (needs y)
source-found needs xs effect h =
    let some = flat_map-in needs xs effect h in
    let passes = in-list_any (λ other. same_effect other effect) (needs some.0) effect some.2 (effect-refl effect) in
    let found = first-found (λ x. has_effect (needs x) effect) xs some.0 some.1 passes in
    let its = list_any-in (λ other. same_effect other effect) (needs found.0) found.2 in
    (found.0, found.1, subst (λ (e : Effect). IsIn e (needs found.0)) (effect-eq its.0 effect its.2) its.1)

-- what a function made of a list
map-in : {X Y : Type 0} (f : X → Y) (xs : List X) (y : Y) → IsIn y (map f xs) → (x : X) × IsIn x xs × (y ≡ f x)
map-in f [] y h = absurd h
map-in f (x ∷ xs) y (inl same) = (x, inl refl, same)
map-in f (x ∷ xs) y (inr later) = let found = map-in f xs y later in (found.0, inr found.1, found.2)

-- the effect of a called method that comes to this one is there
pub its-found : (params : ℕ) (args : List Elem) (effects : List Effect) (effect : Effect)
    → IsIn effect (map (said_effect params) (map (fill_effect args) effects))
    → (its : Effect) × (slice_get effects (effects_before params args effects effect) ≡ Some its)
    × (effect ≡ said_effect params (fill_effect args its))
its-found params args effects effect h =
    let said = map-in (said_effect params) (map (fill_effect args) effects) effect h in
    let its = map-in (fill_effect args) effects said.0 said.1 in
    let same : effect ≡ said_effect params (fill_effect args its.0) = said.2 ∙ ap (said_effect params) its.2 in
    let passes : same_effect (said_effect params (fill_effect args its.0)) effect ≡ true =
    ap (λ (e : Effect). same_effect e effect) (sym same) ∙ effect-refl effect in
    let found = first-found (λ one. same_effect (said_effect params (fill_effect args one)) effect) effects its.0 its.1 passes in
    (found.0, found.1, sym (effect-eq (said_effect params (fill_effect args found.0)) effect found.2))
