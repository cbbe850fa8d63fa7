-- An access spares the effects of a task if it interferes with none of them. An effect spares them if each access that
-- it covers does. It does so if it statically interferes with no written effect of the task.
use Rattle.std.proofs.Common.{◌≡◌, ℤ, Bool, true, false, ◌||◌, not, ◌&&◌, IsTrue, List, [], ◌∷◌, map, Option, None, Some, refl, sym, ap, ap₂, ◌∙◌, subst}
use Rattle.region_paths.specs.declared.elements.Elem.{Elem}
use Rattle.region_paths.specs.declared.elements.Elem.TheVariants.{Name, Index, Var, AnyIndex}
use Rattle.region_paths.specs.Apart.{apart}
use Rattle.region_paths.specs.Arguments.{literals}
use Rattle.region_paths.specs.Concrete.{InSet}
use Rattle.region_paths.specs.Filled.{Valuation, fill, fill_elem}
use Rattle.region_paths.specs.Written.{WrittenPath}
use Rattle.effect_sets.specs.declared.effects.Effect.{Effect}
use Rattle.effect_sets.specs.Access.{PathAccess, AccessInterferes, AccessInterferesWithSome, CoversAccess}
use Rattle.effect_sets.specs.Filled.{effect_under, fill_effect}
use Rattle.effect_sets.specs.Interference.{one_writes, statically_interferes}
use Rattle.effect_sets.proofs.Accesses.{apart-under, covered-alone}
use Rattle.effect_sets.proofs.Filling.{fill_effect-within}
use Rattle.twe_program.specs.declared.program.Decl.{Decl}
use Rattle.seg_meaning.specs.Entry.{effects_of}
use Rattle.effect_check.specs.Acts.{filled_summary}
use Rattle.effect_check.proofs.Members.{IsIn}
use Rattle.isolation_laws.proofs.soundness.Declared.{in-map, map-in}
use Rattle.isolation_laws.proofs.effects.Instances.{AllStandAs, loose_stands}
use Rattle.isolation_laws.proofs.effects.Interference.{any-in, in-any, interferes_more}
use Rattle.isolation_laws.proofs.effects.LoosenedPaths.{apart-loose, loose}

-- the access interferes with none of the effects
abbrev pub Spares : List Effect → PathAccess → Type 0
Spares es a = ¬ AccessInterferesWithSome a es

-- each access that the effect covers spares these effects, whatever values its variables have
abbrev pub EffectSpares : List Effect → Effect → Type 0
EffectSpares es e = (v : Valuation) (a : PathAccess) → CoversAccess (effect_under v e) a → Spares es a

writes_more : (a b c : Bool) → (a ≡ true → b ≡ true) → (a || c) ≡ true → (b || c) ≡ true
writes_more true b c more h = ap (λ (x : Bool). x || c) (more refl)
writes_more false true c more h = refl
writes_more false false c more h = h

-- an access that does no more than another spares them if the other does
pub spares_less : (es : List Effect) (a b : PathAccess) → (IsTrue a.write → IsTrue b.write) → a.path ≡ b.path → Spares es b → Spares es a
spares_less es a b less same spares some =
    let found = any-in (λ (e : Effect). AccessInterferes a e) es some in
    let e = found.0 in
    spares (in-any (λ (e : Effect). AccessInterferes b e) es e found.1 (writes_more a.write b.write e.write less found.2.0, subst (InSet e.path) same found.2.1))

-- filling a path with no arguments changes nothing
elements_stay : (elems : List Elem) → map (fill_elem []) elems ≡ elems
elements_stay [] = refl
elements_stay (Name n ∷ elems) = ap (λ (xs : List Elem). Name n ∷ xs) (elements_stay elems)
elements_stay (Index i ∷ elems) = ap (λ (xs : List Elem). Index i ∷ xs) (elements_stay elems)
elements_stay (Var k ∷ elems) = ap (λ (xs : List Elem). Var k ∷ xs) (elements_stay elems)
elements_stay (AnyIndex ∷ elems) = ap (λ (xs : List Elem). AnyIndex ∷ xs) (elements_stay elems)

path_stays : (path : WrittenPath) → fill [] path ≡ path
path_stays path = ap₂ (λ (elems tail : List Elem). record { elems = elems; star = path.star; tail = tail }) (elements_stay path.elems) (elements_stay path.tail)

-- the test has the same result for effects whose arguments are loosened
right-loose : (xs : List Elem) (e a : Effect) → statically_interferes e (fill_effect (map loose xs) a) ≡ statically_interferes e (fill_effect xs a)
right-loose xs e a =
    let P : WrittenPath → WrittenPath → Bool = λ path other. one_writes e a && not (apart path other) in
    let stays = path_stays e.path in
    ap (λ (path : WrittenPath). P path (fill (map loose xs) a.path)) (sym stays)
    ∙ (ap (λ (b : Bool). one_writes e a && not b) (apart-loose [] xs e.path a.path) ∙ ap (λ (path : WrittenPath). P path (fill xs a.path)) stays)

-- an effect that is apart from each written effect of a task spares the task's effects
pub written_spares : (o : Option Decl) (xs : List Elem) (zs : List ℤ) → AllStandAs xs zs → (e : Effect)
    → ((b : Effect) → IsIn b (filled_summary o xs).effects → ¬ IsTrue (statically_interferes e b)) → EffectSpares (effects_of o zs).effects e
written_spares None xs zs stand e never v a covered some = absurd (any-in (λ (b : Effect). AccessInterferes a b) [] some).1
written_spares (Some decl) xs zs stand e never v a covered some =
    let found = any-in (λ (b : Effect). AccessInterferes a b) (effects_of (Some decl) zs).effects some in
    let plain = map-in (fill_effect (literals zs)) decl.summary.effects found.0 found.1 in
    let real = fill_effect (literals zs) plain.0 in
    let loosened = fill_effect (map loose xs) plain.0 in
    let interferes : AccessInterferes a real = subst (AccessInterferes a) plain.2 found.2 in
    let none : ¬ IsTrue (statically_interferes e loosened) =
    λ met. never (fill_effect xs plain.0) (in-map (fill_effect xs) decl.summary.effects plain.0 plain.1) (sym (right-loose xs e plain.0) ∙ met) in
    let inside = fill_effect-within v (map loose xs) zs plain.0 (loose_stands v xs zs stand) in
    covered-alone (effect_under v e) real
    (λ i. apart-under e loosened none v (interferes_more (effect_under v e) real (effect_under v loosened) i inside)) a covered interferes
