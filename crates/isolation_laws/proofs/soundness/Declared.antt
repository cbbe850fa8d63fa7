-- What a written summary covers, its instance covers when the task runs, with the values of the variables.
use Rattle.std.proofs.Common.{◌≡◌, ℕ, zero, suc, ◌<◌, ℤ, true, IsTrue, List, [], ◌∷◌, map, length, take, inl, inr, Some, refl, sym, ap, ◌∙◌, subst, arith}
use Rattle.std.specs.Prelude.{slice_get}
use Rattle.std.specs.List.{AllByRecursion}
use Rattle.std.proofs.lemmas.Bool.{and_from, lt-ltb}
use Rattle.std.proofs.lemmas.List.{length-map}
use Rattle.region_paths.specs.declared.elements.Elem.{Elem}
use Rattle.region_paths.specs.declared.elements.Elem.TheVariants.{Name, Index, Var, AnyIndex}
use Rattle.region_paths.specs.Arguments.{ArgumentsStand, GivesValue, literals}
use Rattle.region_paths.specs.Filled.{Valuation, vars_below}
use Rattle.effect_sets.specs.declared.effects.Effect.{Effect}
use Rattle.effect_sets.specs.declared.effects.Summary.{Summary}
use Rattle.effect_sets.specs.Access.{PathAccess, CoversAccess, SomeCoversAccess}
use Rattle.effect_sets.specs.Covers.{covers, effect_covers, EffectWithin}
use Rattle.effect_sets.specs.Filled.{effect_under, fill_effect, fill_summary}
use Rattle.effect_sets.proofs.Accesses.{within-covers, covers-under}
use Rattle.effect_sets.proofs.Filling.{fill_effect-literals, fill_effect-within}
use Rattle.twe_program.specs.WellFormed.{ElementFits, PathFits, SummaryFits}
use Rattle.effect_check.proofs.Members.{IsIn, in-contains, list_any-in, all-in}
use Rattle.seg_meaning.specs.Access.{value_in}

pub in-map : {X Y : Type 0} (f : X → Y) (xs : List X) (x : X) → IsIn x xs → IsIn (f x) (map f xs)
in-map f [] x h = absurd h
in-map f (y ∷ ys) x (inl e) = inl (ap f e)
in-map f (y ∷ ys) x (inr h) = inr (in-map f ys x h)

pub map-in : {X Y : Type 0} (f : X → Y) (xs : List X) (y : Y) → IsIn y (map f xs) → (x : X) × IsIn x xs × (y ≡ f x)
map-in f [] y h = absurd h
map-in f (x ∷ xs) y (inl e) = (x, inl refl, e)
map-in f (x ∷ xs) y (inr h) = let found = map-in f xs y h in (found.0, inr found.1, found.2)

-- the effect lies within one of these
abbrev pub SomeWithin : List Effect → Effect → Type 0
SomeWithin es e = (d : Effect) × IsIn d es × EffectWithin d e

pub within_more : (es : List Effect) (d e : Effect) → SomeWithin es d → EffectWithin d e → SomeWithin es e
within_more es d e first second = (first.0, first.1, (λ w. first.2.0 (second.0 w), λ c there. first.2.1 c (second.1 c there)))

pub within_itself : (es : List Effect) (e : Effect) → IsIn e es → SomeWithin es e
within_itself es e here = (e, here, (λ w. w, λ c there. there))

pub some_covers : (es : List Effect) (e : Effect) (a : PathAccess) → SomeWithin es e → CoversAccess e a → SomeCoversAccess es a
some_covers es e a within covered =
    let c = in-contains es within.0 within.1 in
    (c.0, within.0, c.1, c.2, within-covers within.0 e within.2 a covered)

-- the variables of elements that fit are below the number of parameters
vars_below-fits : (regions n : ℕ) (es : List Elem) → AllByRecursion (ElementFits regions n) es → vars_below n es ≡ true
vars_below-fits regions n [] fit = refl
vars_below-fits regions n (Name name ∷ es) fit = vars_below-fits regions n es fit.1
vars_below-fits regions n (Index i ∷ es) fit = vars_below-fits regions n es fit.1
vars_below-fits regions n (Var k ∷ es) fit = and_from _ _ (lt-ltb k n fit.0) (vars_below-fits regions n es fit.1)
vars_below-fits regions n (AnyIndex ∷ es) fit = vars_below-fits regions n es fit.1

-- if the variables begin with the arguments, the parameters have these values
abbrev pub values_now : List ℤ → Valuation
values_now vars = λ var. value_in (slice_get vars var)

pub gives_args : (args vars : List ℤ) → take (length args) vars ≡ args → (k : ℕ) → k < length args → slice_get args k ≡ Some (value_in (slice_get vars k))
gives_args [] vars e k h = absurd (omega arith)
gives_args (a ∷ args) [] e k h = absurd (cc)
gives_args (a ∷ args) (x ∷ vars) e zero h = let same : x ≡ a = cc in ap (λ (z : ℤ). Some z) (sym same)
gives_args (a ∷ args) (x ∷ vars) e (suc k) h =
    let rest : take (length args) vars ≡ args = cc in
    gives_args args vars rest k (omega arith)

-- a declared summary, and the arguments that it is filled with
module _ (summary : Summary) (regions : ℕ) (args : List ℤ) (fits : SummaryFits regions (length args) summary) (v : Valuation) (gives : GivesValue v args) where
  under_is_filled : (e : Effect) → PathFits regions (length args) e.path → fill_effect (literals args) e ≡ effect_under v e
  under_is_filled e fit =
      let same : length (literals args) ≡ length args = length-map args (λ z. Index z) in
      let front : vars_below (length (literals args)) e.path.elems ≡ true = ap (λ n. vars_below n e.path.elems) same ∙ vars_below-fits regions (length args) e.path.elems fit.elems in
      let back : vars_below (length (literals args)) e.path.tail ≡ true = ap (λ n. vars_below n e.path.tail) same ∙ vars_below-fits regions (length args) e.path.tail fit.tail in
      fill_effect-literals v args e gives (and_from _ _ front back)

  -- an effect that the summary covers lies within an effect of its instance
  pub covered_now : (e : Effect) → IsTrue (covers summary e) → SomeWithin (fill_summary (literals args) summary).effects (effect_under v e)
  covered_now e covered =
      let found = list_any-in (λ d. effect_covers d e) summary.effects covered in
      let d = found.0 in
      let fit : PathFits regions (length args) d.path = all-in (λ (x : Effect). PathFits regions (length args) x.path) summary.effects fits.effects d found.1 in
      let now : EffectWithin (fill_effect (literals args) d) (effect_under v e) = subst (λ (x : Effect). EffectWithin x (effect_under v e)) (sym (under_is_filled d fit)) (covers-under d e found.2 v) in
      (fill_effect (literals args) d, in-map (fill_effect (literals args)) summary.effects d found.1, now)

  -- if the summary covers each effect of another summary, filled with the written arguments, then each effect of the
  -- other one, filled with their values, lies within an effect of the summary's instance
  pub filled_now : (other : Summary) (written : List Elem) (values : List ℤ) → ArgumentsStand v written values
      → ((e : Effect) → IsIn e (fill_summary written other).effects → IsTrue (covers summary e))
      → (e : Effect) → IsIn e (fill_summary (literals values) other).effects → SomeWithin (fill_summary (literals args) summary).effects e
  filled_now other written values stand covered e there =
      let found = map-in (fill_effect (literals values)) other.effects e there in
      let plain = found.0 in
      let inside : EffectWithin (effect_under v (fill_effect written plain)) e
      = subst (λ (x : Effect). EffectWithin (effect_under v (fill_effect written plain)) x) (sym found.2) (fill_effect-within v written values plain stand) in
      within_more _ (effect_under v (fill_effect written plain)) e
      (covered_now (fill_effect written plain) (covered (fill_effect written plain) (in-map (fill_effect written) other.effects plain found.1))) inside
