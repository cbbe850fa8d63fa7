-- Written effects and their instances, that is, the effects of a task once its arguments are known. If two written
-- effects are apart, so are all of their instances, even if the variables have different values in the two.
use Rattle.std.proofs.Common.{◌≡◌, ℤ, pos, Bool, not, ◌&&◌, IsTrue, List, [], ◌∷◌, map, Option, None, Some, refl, sym, ap, ◌∙◌, subst}
use Rattle.std.proofs.lemmas.Bool.{and_from}
use Rattle.std.proofs.lemmas.Bool.Decides.{Decides-int_eq}
use Rattle.region_paths.specs.declared.elements.Elem.{Elem}
use Rattle.region_paths.specs.declared.elements.Elem.TheVariants.{Name, Index, Var, AnyIndex}
use Rattle.region_paths.specs.Filled.{Valuation}
use Rattle.region_paths.specs.Arguments.{ArgumentsStand, literals}
use Rattle.effect_sets.specs.declared.effects.Effect.{Effect}
use Rattle.effect_sets.specs.Filled.{effect_under, fill_effect}
use Rattle.effect_sets.specs.Interference.{Interferes, SomeInterfere, one_writes, statically_interferes}
use Rattle.effect_sets.proofs.Accesses.{apart-under}
use Rattle.effect_sets.proofs.Filling.{fill_effect-within}
use Rattle.twe_program.specs.declared.program.Decl.{Decl}
use Rattle.seg_meaning.specs.Entry.{effects_of}
use Rattle.effect_check.specs.Acts.{filled_summary}
use Rattle.effect_check.proofs.Members.{IsIn}
use Rattle.isolation_laws.proofs.soundness.Declared.{in-map, map-in}
use Rattle.isolation_laws.proofs.effects.LoosenedPaths.{loose, apart-loose}
use Rattle.isolation_laws.proofs.effects.Interference.{interferes_both, some-meet}

-- a literal stands for its own number; a variable or any index may stand for each number
abbrev pub StandsAs : Elem → ℤ → Type 0
StandsAs (Name n) z = ⊥
StandsAs (Index i) z = i ≡ z
StandsAs (Var k) z = Unit {0}
StandsAs AnyIndex z = Unit {0}

abbrev pub AllStandAs : List Elem → List ℤ → Type 0
AllStandAs [] [] = Unit {0}
AllStandAs [] (z ∷ zs) = ⊥
AllStandAs (x ∷ xs) [] = ⊥
AllStandAs (x ∷ xs) (z ∷ zs) = StandsAs x z × AllStandAs xs zs

pub loose_stands : (v : Valuation) (xs : List Elem) (zs : List ℤ) → AllStandAs xs zs → ArgumentsStand v (map loose xs) zs
loose_stands v [] [] h = refl
loose_stands v [] (z ∷ zs) h = absurd h
loose_stands v (x ∷ xs) [] h = absurd h
loose_stands v (Name n ∷ xs) (z ∷ zs) h = absurd h.0
loose_stands v (Index i ∷ xs) (z ∷ zs) h = and_from _ _ ((Decides-int_eq i z).1 h.0) (loose_stands v xs zs h.1)
loose_stands v (Var k ∷ xs) (z ∷ zs) h = loose_stands v xs zs h.1
loose_stands v (AnyIndex ∷ xs) (z ∷ zs) h = loose_stands v xs zs h.1

-- the test has the same result for effects whose arguments are loosened
test-loose : (xs ys : List Elem) (a b : Effect)
    → statically_interferes (fill_effect (map loose xs) a) (fill_effect (map loose ys) b) ≡ statically_interferes (fill_effect xs a) (fill_effect ys b)
test-loose xs ys a b = ap (λ (apart : Bool). one_writes a b && not apart) (apart-loose xs ys a.path b.path)

zero_each : Valuation
zero_each = λ k. pos 0

effects_apart : (xs ys : List Elem) (zs ws : List ℤ) → AllStandAs xs zs → AllStandAs ys ws → (a b : Effect)
    → ¬ IsTrue (statically_interferes (fill_effect xs a) (fill_effect ys b)) → ¬ Interferes (fill_effect (literals zs) a) (fill_effect (literals ws) b)
effects_apart xs ys zs ws first second a b never i =
    let left = fill_effect (map loose xs) a in
    let right = fill_effect (map loose ys) b in
    let inner = fill_effect-within zero_each (map loose xs) zs a (loose_stands zero_each xs zs first) in
    let outer = fill_effect-within zero_each (map loose ys) ws b (loose_stands zero_each ys ws second) in
    let both = interferes_both (fill_effect (literals zs) a) (fill_effect (literals ws) b) (effect_under zero_each left) (effect_under zero_each right) i inner outer in
    apart-under left right (λ yes. never (sym (test-loose xs ys a b) ∙ yes)) zero_each both

-- so are the effects of two tasks that are made with such arguments
pub instances_apart : (one other : Option Decl) (xs ys : List Elem) (zs ws : List ℤ) → AllStandAs xs zs → AllStandAs ys ws
    → ((a b : Effect) → IsIn a (filled_summary one xs).effects → IsIn b (filled_summary other ys).effects → ¬ IsTrue (statically_interferes a b))
    → ¬ SomeInterfere (effects_of one zs).effects (effects_of other ws).effects
instances_apart None other xs ys zs ws first second never some = absurd (some-meet [] (effects_of other ws).effects some).1
instances_apart (Some one) None xs ys zs ws first second never some = absurd (some-meet (effects_of (Some one) zs).effects [] some).3
instances_apart (Some one) (Some other) xs ys zs ws first second never some =
    let m = some-meet (effects_of (Some one) zs).effects (effects_of (Some other) ws).effects some in
    let a = map-in (fill_effect (literals zs)) one.summary.effects m.0 m.1 in
    let b = map-in (fill_effect (literals ws)) other.summary.effects m.2 m.3 in
    let i : Interferes (fill_effect (literals zs) a.0) (fill_effect (literals ws) b.0)
    = subst (λ (e : Effect). Interferes e (fill_effect (literals ws) b.0)) a.2 (subst (λ (e : Effect). Interferes m.0 e) b.2 m.4) in
    effects_apart xs ys zs ws first second a.0 b.0
    (never (fill_effect xs a.0) (fill_effect ys b.0) (in-map (fill_effect xs) one.summary.effects a.0 a.1) (in-map (fill_effect ys) other.summary.effects b.0 b.1)) i
