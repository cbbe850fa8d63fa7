-- If the effects of a declaration, as they are written, do not interfere with filled effects, its tasks do not, whatever their arguments.
use Rattle.std.proofs.Common.{◌≡◌, ℕ, ℤ, zero, suc, inl, inr, Bool, true, false, List, [], ◌∷◌, length, map, Option, None, Some, IsTrue, refl, sym, ap, ◌∙◌, subst}
use Rattle.std.specs.Prelude.{slice_get}
use Rattle.std.specs.List.{AllByRecursion, list_any}
use Rattle.std.proofs.lemmas.Bool.{and_from, cases_Bool, false≢true, lt-ltb}
use Rattle.std.proofs.lemmas.List.{length-map}
use Rattle.std.proofs.Math.Seq.{take-length}
use Rattle.region_paths.specs.declared.elements.Elem.{Elem}
use Rattle.region_paths.specs.declared.elements.Elem.TheVariants.{Name, Index, Var, AnyIndex}
use Rattle.region_paths.specs.Arguments.{literals}
use Rattle.region_paths.specs.Filled.{filled, vars_below}
use Rattle.region_paths.proofs.Filling.{under-filled}
use Rattle.effect_sets.specs.declared.effects.Effect.{Effect}
use Rattle.effect_sets.specs.declared.effects.Summary.{Summary}
use Rattle.effect_sets.specs.Filled.{all_filled, effect_under, fill_effect}
use Rattle.effect_sets.specs.Interference.{Interferes, SomeInterfere, statically_interfere, statically_interferes}
use Rattle.effect_sets.proofs.Accesses.{apart-under}
use Rattle.effect_sets.proofs.Filling.{fill_effect-literals}
use Rattle.twe_base.proofs.Members.{IsIn, in-list_any, list_all-in}
use Rattle.twe_program.specs.declared.program.Decl.{Decl}
use Rattle.twe_program.specs.Fitting.{TakesArguments}
use Rattle.twe_program.specs.Program.{Program}
use Rattle.twe_program.specs.WellFormed.{DeclFits, ElementFits, IsWellFormed, PathFits}
use Rattle.seg_meaning.specs.Entry.{effects_of}
use Rattle.isolation_laws.proofs.effects.Interference.{some-meet}
use Rattle.isolation_laws.proofs.soundness.Declared.{gives_args, map-in, values_now}
use Rattle.machine_state.proofs.lists.Places.{got_one}

-- what holds of each element holds of a member, and of the one at a place
pub at_place : {A : Type 0} (P : A → Type 0) (xs : List A) (i : ℕ) (x : A) → slice_get xs i ≡ Some x → AllByRecursion P xs → P x
at_place P [] i x e h = absurd (cc (e))
at_place P (y ∷ ys) zero x e h = let same : y ≡ x = cc (e) in subst P same h.0
at_place P (y ∷ ys) (suc i) x e h = at_place P ys i x e h.1

of_member : {A : Type 0} (P : A → Type 0) (xs : List A) (x : A) → IsIn x xs → AllByRecursion P xs → P x
of_member P [] x there h = absurd there
of_member P (y ∷ ys) x (inl same) h = subst P (sym same) h.0
of_member P (y ∷ ys) x (inr there) h = of_member P ys x there h.1

below_fits : (regions n : ℕ) (es : List Elem) → AllByRecursion (ElementFits regions n) es → vars_below n es ≡ true
below_fits regions n [] fits = refl
below_fits regions n (Name region ∷ es) fits = below_fits regions n es fits.1
below_fits regions n (Index index ∷ es) fits = below_fits regions n es fits.1
below_fits regions n (Var k ∷ es) fits = and_from _ _ (lt-ltb k n fits.0) (below_fits regions n es fits.1)
below_fits regions n (AnyIndex ∷ es) fits = below_fits regions n es fits.1

-- filled with as many arguments as there are parameters, an effect is the one under the valuation that they give
filled_with : (regions : ℕ) (args : List ℤ) (e : Effect) → PathFits regions (length args) e.path → fill_effect (literals args) e ≡ effect_under (values_now args) e
filled_with regions args e fit =
    let same : length (literals args) ≡ length args = length-map args (λ z. Index z) in
    let front : vars_below (length (literals args)) e.path.elems ≡ true = ap (λ n. vars_below n e.path.elems) same ∙ below_fits regions (length args) e.path.elems fit.elems in
    let back : vars_below (length (literals args)) e.path.tail ≡ true = ap (λ n. vars_below n e.path.tail) same ∙ below_fits regions (length args) e.path.tail fit.tail in
    fill_effect-literals (values_now args) args e (gives_args args args (take-length args)) (and_from _ _ front back)

filled_member : (es : List Effect) (e : Effect) → IsIn e es → all_filled es ≡ true → filled e.path ≡ true
filled_member es e there all = list_all-in (λ (x : Effect). filled x.path) es all e there

-- the test finds each pair
no_pair : (s t : Summary) → statically_interfere s t ≡ false → (a b : Effect) → IsIn a s.effects → IsIn b t.effects → ¬ IsTrue (statically_interferes a b)
no_pair s t none a b in_s in_t found =
    false≢true (sym none ∙ in-list_any (λ (x : Effect). list_any (λ (y : Effect). statically_interferes x y) t.effects) s.effects a in_s
    (in-list_any (λ (y : Effect). statically_interferes a y) t.effects b in_t found))

pub declared_apart : (p : Program) → IsWellFormed p → (n : ℕ) (decl : Decl) → slice_get p.tasks n ≡ Some decl → (effects : Summary) → IsTrue (all_filled effects.effects)
    → statically_interfere decl.summary effects ≡ false → (args : List ℤ) → TakesArguments (Some decl) (length args)
    → ¬ SomeInterfere (effects_of (Some decl) args).effects effects.effects
declared_apart p wf n decl there effects all none args takes some =
    let m = some-meet (effects_of (Some decl) args).effects effects.effects some in
    let a = map-in (fill_effect (literals args)) decl.summary.effects m.0 m.1 in
    let b = m.2 in
    let fits = at_place (DeclFits p) p.tasks n decl there wf.tasks in
    let fit : PathFits (length p.regions) (length args) a.0.path =
    subst (λ (k : ℕ). PathFits (length p.regions) k a.0.path) takes (of_member (λ (e : Effect). PathFits (length p.regions) decl.params e.path) decl.summary.effects a.0 a.1 fits.summary.effects) in
    let v = values_now args in
    let left : m.0 ≡ effect_under v a.0 = a.2 ∙ filled_with (length p.regions) args a.0 fit in
    let right : effect_under v b ≡ b = λ i. record b { path = under-filled v b.path (filled_member effects.effects b m.3 all) i } in
    let both : Interferes (effect_under v a.0) (effect_under v b) =
    subst (λ (e : Effect). Interferes (effect_under v a.0) e) (sym right) (subst (λ (e : Effect). Interferes e b) left m.4) in
    apart-under a.0 b (no_pair decl.summary effects none a.0 b a.1 m.3) v both
