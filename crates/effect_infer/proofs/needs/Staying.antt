-- With summaries that are made of needs and cover all of them, an accepted program stays accepted.
use Rattle.std.proofs.Common.{◌≡◌, ◌⊎◌, ◌<◌, ℕ, Bool, true, false, List, [], ◌∷◌, map, length, Option, None, Some, zero, suc, inl, inr, refl, sym, ap, ◌∙◌, subst}
use Rattle.std.specs.Prelude.{slice_get}
use Rattle.std.specs.List.{Contains, list_all, list_any, AllByRecursion}
use Rattle.std.proofs.lemmas.List.{length-map}
use Rattle.std.proofs.lemmas.Bool.{and_from, lt-ltb}
use Rattle.twe_base.specs.declared.place.Place.{Place}
use Rattle.region_paths.specs.declared.elements.Elem.{Elem}
use Rattle.region_paths.specs.declared.elements.Elem.TheVariants.{Name, Index, Var, AnyIndex}
use Rattle.region_paths.specs.Filled.{fill_elem, vars_below}
use Rattle.effect_sets.specs.declared.effects.Effect.{Effect}
use Rattle.effect_sets.specs.declared.effects.Summary.{Summary}
use Rattle.effect_sets.specs.Covers.{covers, effect_covers}
use Rattle.effect_sets.specs.Filled.{fill_effect}
use Rattle.twe_program.specs.declared.program.Decl.{Decl}
use Rattle.twe_program.specs.Program.{Program}
use Rattle.twe_program.specs.Expression.{Arguments}
use Rattle.twe_program.specs.WellFormed.{ElementFits, PathFits, MethodFits, IsWellFormed}
use Rattle.effect_check.specs.declared.rule.ERule.{ERule}
use Rattle.effect_check.specs.declared.rule.ERule.TheVariants.{E8}
use Rattle.effect_check.specs.Standing.{elements_of}
use Rattle.effect_check.specs.Acts.{filled_summary}
use Rattle.effect_check.specs.FailsEffect.{MethodFails, access_outside, called_outside}
use Rattle.effect_infer.specs.declared.needs.need.Need.{Need}
use Rattle.effect_infer.specs.needs.Needs.{effect_of, filled_need}
use Rattle.effect_infer.specs.needs.Choices.{with_each, with_summaries, speaks_of, IsChoice, NoMethodFails, NoRuleFails, HasNeeds, CoversNeeds}
use Rattle.twe_base.proofs.Members.{IsIn, contains-in, in-contains, list_any-in, in-list_any}
use Rattle.effect_infer.proofs.needs.Within.{fill-keeps}
use Rattle.effect_infer.proofs.needs.Inside.{covers-map}
use Rattle.effect_infer.proofs.needs.Steps.{elements-indexes}
use Rattle.effect_infer.proofs.needs.Soundness.{covers-wider, called-need}
use Rattle.effect_infer.proofs.needs.Soundness as sound
use Rattle.effect_infer.proofs.needs.Leastness.{map-in, need-decl}
use Rattle.effect_infer.proofs.needs.Leastness as least
use Rattle.effect_infer.proofs.needs.Shrinking.{interferes-less}
use Rattle.effect_infer.proofs.needs.Narrowing.{IsNarrower, tasks-pass}

-- the summaries that the program declares are a choice, and make the same program
abbrev pub declared_summaries : Program → List Summary
declared_summaries p = map (λ (d : Decl). d.summary) p.methods

own-each : (decls : List Decl) → with_each (map (λ (d : Decl). d.summary) decls) decls ≡ decls
own-each [] = refl
own-each (d ∷ decls) = ap (λ (ds : List Decl). d ∷ ds) (own-each decls)

own-program : (p : Program) → with_summaries (declared_summaries p) p ≡ p
own-program p = ap (λ (ms : List Decl). record p { methods = ms }) (own-each p.methods)

own-at : (decls : List Decl) (m : ℕ) (decl : Decl) (summary : Summary) → slice_get decls m ≡ Some decl → slice_get (map (λ (d : Decl). d.summary) decls) m ≡ Some summary → summary ≡ decl.summary
own-at [] m decl summary e f = absurd (cc)
own-at (d ∷ decls) zero decl summary e f = cc
own-at (d ∷ decls) (suc m) decl summary e f = own-at decls m decl summary e f

vars-fit : (regions params : ℕ) (es : List Elem) → AllByRecursion (ElementFits regions params) es → vars_below params es ≡ true
vars-fit regions params [] fit = refl
vars-fit regions params (Name n ∷ es) fit = vars-fit regions params es fit.1
vars-fit regions params (Index i ∷ es) fit = vars-fit regions params es fit.1
vars-fit regions params (Var k ∷ es) fit = and_from _ _ (lt-ltb k params fit.0) (vars-fit regions params es fit.1)
vars-fit regions params (AnyIndex ∷ es) fit = vars-fit regions params es fit.1

effects-speak : (regions params : ℕ) (es : List Effect) → AllByRecursion (λ (e : Effect). PathFits regions params e.path) es → list_all (speaks_of params) es ≡ true
effects-speak regions params [] fit = refl
effects-speak regions params (e ∷ es) fit =
    and_from (speaks_of params e) (list_all (speaks_of params) es)
    (and_from _ _ (vars-fit regions params e.path.elems fit.0.elems) (vars-fit regions params e.path.tail fit.0.tail)) (effects-speak regions params es fit.1)

fits-at : (p : Program) (decls : List Decl) → AllByRecursion (MethodFits p) decls → (m : ℕ) (decl : Decl) → slice_get decls m ≡ Some decl → MethodFits p decl
fits-at p [] fits m decl e = absurd (cc)
fits-at p (d ∷ decls) fits zero decl e = let same : d ≡ decl = cc in subst (MethodFits p) same fits.0
fits-at p (d ∷ decls) fits (suc m) decl e = fits-at p decls fits.1 m decl e

own-choice : (p : Program) → IsWellFormed p → IsChoice p (declared_summaries p)
own-choice p well = record {
  one_each = length-map p.methods (λ (d : Decl). d.summary);
  of_parameters = λ m decl summary is there.
      let fits = fits-at p p.methods well.methods m decl is in
      subst (λ (s : Summary). list_all (speaks_of decl.params) s.effects ≡ true) (sym (own-at p.methods m decl summary is there))
      (effects-speak (length p.regions) decl.params decl.summary.effects fits.fits.summary.effects);
}

module _ (p : Program) (summaries : List Summary) (well : IsWellFormed p) (one_each : length summaries ≡ length p.methods) (has : HasNeeds p summaries) (all : CoversNeeds p summaries)
    (passes : NoRuleFails p) where
  -- the declared summaries cover what their methods need
  own-covers : CoversNeeds p (declared_summaries p)
  own-covers m summary need there needed =
      least.covered p (declared_summaries p) (own-choice p well) (subst NoMethodFails (sym (own-program p)) (passes E8)) m need needed summary there

  get-own : (decls : List Decl) (m : ℕ) (decl : Decl) → slice_get decls m ≡ Some decl → slice_get (map (λ (d : Decl). d.summary) decls) m ≡ Some decl.summary
  get-own [] m decl e = absurd (cc)
  get-own (d ∷ decls) zero decl e = cc
  get-own (d ∷ decls) (suc m) decl e = get-own decls m decl e

  -- so each effect of a call is covered by one that the call has with the declared summaries
  wider-call : (method : ℕ) (args : List Elem) (need : Need) → (decl : Decl) → slice_get p.methods method ≡ Some decl → covers decl.summary (effect_of need) ≡ true
      → (wide : Effect) × IsIn wide decl.summary.effects × (effect_covers wide (effect_of need) ≡ true)
  wider-call method args need decl is covered = list_any-in (λ d. effect_covers d (effect_of need)) decl.summary.effects covered

  narrower : (method : ℕ) (given : Arguments) (effect : Effect) → IsIn effect (filled_summary (slice_get (with_summaries summaries p).methods method) (elements_of given)).effects
      → (wide : Effect) × IsIn wide (filled_summary (slice_get p.methods method) (elements_of given)).effects × IsNarrower effect wide
  narrower method given effect among =
      let args = elements_of given in
      let from = called-need p summaries one_each has all method args effect among in
      let decl = need-decl p method from.0 from.1 in
      let wide = wider-call method args from.0 decl.0 decl.1 (own-covers method decl.0.summary from.0 (get-own p.methods method decl.0 decl.1) from.1) in
      let covering : effect_covers (fill_effect args wide.0) (effect_of (filled_need args from.0)) ≡ true = covers-map (fill_elem args) (fill-keeps args (elements-indexes given)) from.0 wide.0 wide.2 in
      let there : IsIn (fill_effect args wide.0) (filled_summary (slice_get p.methods method) args).effects =
      subst (λ (o : Option Decl). IsIn (fill_effect args wide.0) (filled_summary o args).effects) (sym decl.1) (map-in (fill_effect args) decl.0.summary.effects wide.0 wide.1) in (
        fill_effect args wide.0,
        there,
        subst (λ (e : Effect). IsNarrower e (fill_effect args wide.0)) (sym from.2) (record {
          covered = λ s covered. covers-wider s (filled_need args from.0) (fill_effect args wide.0) covering covered;
          less = λ other meets. interferes-less (filled_need args from.0) (fill_effect args wide.0) other covering meets;
        }),
      )

  -- methods fail no other rule than theirs
  method-passes : (method : Decl) → Contains (with_summaries summaries p).methods method → (rule : ERule) (place : Place) → MethodFails (with_summaries summaries p) method rule place → ⊥
  method-passes method there rule place (access_outside point effect at does outside) =
      sound.accepted p summaries one_each has all at (inr (method, there, access_outside point effect at does outside))
  method-passes method there rule place (called_outside point effects effect at does among outside) =
      sound.accepted p summaries one_each has all at (inr (method, there, called_outside point effects effect at does among outside))

  pub stays-accepted : NoRuleFails (with_summaries summaries p)
  stays-accepted rule place (inl task) = tasks-pass p summaries passes narrower task.0 task.1 rule place task.2
  stays-accepted rule place (inr method) = method-passes method.0 method.1 rule place method.2
