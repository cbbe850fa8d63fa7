-- Summaries that are accepted cover all needs.
use Rattle.std.proofs.Common.{◌≡◌, ◌⊎◌, ℕ, Bool, true, false, List, [], ◌∷◌, map, length, Option, None, Some, inl, inr, refl, sym, ap, ◌∙◌, subst}
use Rattle.std.specs.Prelude.{slice_get, ◌&&◌}
use Rattle.std.specs.List.{Contains, list_any, list_all}
use Rattle.std.proofs.lemmas.Bool.{and_parts, cases_Bool, false≢true}
use Rattle.twe_base.specs.declared.place.Place.{Place}
use Rattle.region_paths.specs.declared.elements.Elem.{Elem}
use Rattle.region_paths.specs.Written.{WrittenPath}
use Rattle.region_paths.specs.Filled.{vars_below, fill_elem}
use Rattle.effect_sets.specs.declared.effects.Effect.{Effect}
use Rattle.effect_sets.specs.declared.effects.Summary.{Summary}
use Rattle.effect_sets.specs.Covers.{covers, effect_covers}
use Rattle.effect_sets.specs.Filled.{fill_effect}
use Rattle.twe_program.specs.declared.program.Decl.{Decl}
use Rattle.twe_program.specs.Program.{Program}
use Rattle.effect_check.specs.declared.act.ActKind.TheVariants as acts
use Rattle.effect_check.specs.declared.rule.ERule.TheVariants.{E8}
use Rattle.effect_check.specs.Acts.{filled_summary}
use Rattle.effect_check.specs.Covered.{Does}
use Rattle.effect_check.specs.FailsEffect.{MethodFails, FailsEffect, access_outside, called_outside}
use Rattle.effect_infer.specs.declared.needs.need.Need.{Need}
use Rattle.effect_infer.specs.declared.needs.need.BodyStep.TheVariants as steps
use Rattle.effect_infer.specs.needs.Steps.{steps_in_all}
use Rattle.effect_infer.specs.needs.Needs.{IsNeed, own, called, HasStep, effect_of, settled, settled_elem, filled_need}
use Rattle.effect_infer.specs.needs.Choices.{with_summaries, with_each, speaks_of, IsChoice, NoMethodFails, CoversNeeds}
use Rattle.twe_base.proofs.Members.{IsIn, contains-in, in-contains, list_any-in, in-list_any, list_all-in}
use Rattle.effect_infer.proofs.needs.Within.{settled-keeps, settled-same, fill-keeps}
use Rattle.effect_infer.proofs.needs.Inside.{mapped, covers-trans, covers-map}
use Rattle.effect_infer.proofs.needs.Relation.{step-touch, step-call, arguments-indexes, with_one, with_each-get, get-in, get-some}
use Rattle.effect_infer.proofs.needs.Soundness.{covers-wider}

-- an effect that speaks of parameters alone covers what the method says of a need, if it covers the need
settled-speaks : (params : ℕ) (d : Effect) → speaks_of params d ≡ true → mapped (settled_elem params) d ≡ d
settled-speaks params d h =
    let parts = and_parts (vars_below params d.path.elems) (vars_below params d.path.tail) h in
    ap (λ (xs : List Elem). record d { path = record { elems = xs; star = d.path.star; tail = map (settled_elem params) d.path.tail } }) (settled-same params d.path.elems parts.0)
    ∙ ap (λ (xs : List Elem). record d { path = record { elems = d.path.elems; star = d.path.star; tail = xs } }) (settled-same params d.path.tail parts.1)

covers-settled : (params : ℕ) (need : Need) (d : Effect) → speaks_of params d ≡ true → effect_covers d (effect_of need) ≡ true → effect_covers d (effect_of (settled params need)) ≡ true
covers-settled params need d speaks h =
    subst (λ (e : Effect). effect_covers e (effect_of (settled params need)) ≡ true) (settled-speaks params d speaks)
    (covers-map (settled_elem params) (settled-keeps params) need d h)

summary-settled : (params : ℕ) (s : Summary) (need : Need) → list_all (speaks_of params) s.effects ≡ true → covers s (effect_of need) ≡ true → covers s (effect_of (settled params need)) ≡ true
summary-settled params s need speaks h =
    let found = list_any-in (λ d. effect_covers d (effect_of need)) s.effects h in
    in-list_any (λ d. effect_covers d (effect_of (settled params need))) s.effects found.0 found.1
    (covers-settled params need found.0 (list_all-in (speaks_of params) s.effects speaks found.0 found.1) found.2)

pub map-in : (f : Effect → Effect) (xs : List Effect) (x : Effect) → IsIn x xs → IsIn (f x) (map f xs)
map-in f [] x h = absurd h
map-in f (y ∷ ys) x (inl e) = inl (ap f e)
map-in f (y ∷ ys) x (inr h) = inr (map-in f ys x h)

-- a test that is not false is true
sure : (b : Bool) → ((b ≡ true → ⊥) → ⊥) → b ≡ true
sure true h = refl
sure false h = absurd (h (λ e. false≢true e))

-- a method that needs something is there
pub need-decl : (p : Program) (m : ℕ) (need : Need) → IsNeed p m need → (decl : Decl) × (slice_get p.methods m ≡ Some decl)
need-decl p m need (own n decl step has) = (decl, has.0)
need-decl p m need (called n decl callee args inner has needed) = (decl, has.0)

module _ (p : Program) (summaries : List Summary) (choice : IsChoice p summaries) (accepted : NoMethodFails (with_summaries summaries p)) where
  method-there : (m : ℕ) (decl : Decl) (summary : Summary) → slice_get p.methods m ≡ Some decl → slice_get summaries m ≡ Some summary
      → Contains (with_summaries summaries p).methods (with_one decl summary)
  method-there m decl summary is there = in-contains _ _ (get-in (with_each summaries p.methods) m (with_one decl summary) (with_each-get summaries p.methods m decl summary is there))

  -- what the body reads and writes is covered
  touch-covered : (m : ℕ) (decl : Decl) (summary : Summary) (need : Need) → slice_get p.methods m ≡ Some decl → slice_get summaries m ≡ Some summary
      → Contains (steps_in_all p.cells decl.body.block) (steps.Touch need) → covers summary (effect_of need) ≡ true
  touch-covered m decl summary need is there step =
      let does = step-touch (with_summaries summaries p) (with_one decl summary) need step in
      sure (covers summary (effect_of need)) (λ outside. accepted does.1 (inr (
        with_one decl summary,
        method-there m decl summary is there,
        access_outside does.0 (effect_of need) does.1 does.2 outside,
      )))

  -- and so is each effect of a called method
  call-covered : (m : ℕ) (decl : Decl) (summary : Summary) (callee : ℕ) (args : List Elem) (effect : Effect) → slice_get p.methods m ≡ Some decl → slice_get summaries m ≡ Some summary
      → Contains (steps_in_all p.cells decl.body.block) (steps.Call callee args)
      → IsIn effect (filled_summary (slice_get (with_summaries summaries p).methods callee) args).effects → covers summary effect ≡ true
  call-covered m decl summary callee args effect is there step among =
      let does = step-call (with_summaries summaries p) (with_one decl summary) callee args step in
      let effects = filled_summary (slice_get (with_summaries summaries p).methods callee) args in
      sure (covers summary effect) (λ outside. accepted does.1 (inr (
        with_one decl summary,
        method-there m decl summary is there,
        called_outside does.0 effects effect does.1 does.2 (in-contains _ _ among) outside,
      )))

  -- the effects of a called method with this summary
  filled-there : (callee : ℕ) (args : List Elem) (decl : Decl) (summary : Summary) (effect : Effect) → slice_get p.methods callee ≡ Some decl → slice_get summaries callee ≡ Some summary
      → IsIn effect summary.effects → IsIn (fill_effect args effect) (filled_summary (slice_get (with_summaries summaries p).methods callee) args).effects
  filled-there callee args decl summary effect is there among =
      subst (λ (o : Option Decl). IsIn (fill_effect args effect) (filled_summary o args).effects) (sym (with_each-get summaries p.methods callee decl summary is there))
      (map-in (fill_effect args) summary.effects effect among)

  pub covered : (m : ℕ) (need : Need) → IsNeed p m need → (summary : Summary) → slice_get summaries m ≡ Some summary → covers summary (effect_of need) ≡ true
  covered m need (own n decl step has) summary there =
      summary-settled decl.params summary step (choice.of_parameters n decl summary has.0 there) (touch-covered n decl summary step has.0 there has.1)
  covered m need (called n decl callee args inner has needed) summary there =
      let callee_decl = need-decl p callee inner needed in
      let callee_summary = get-some summaries p.methods callee callee_decl.0 choice.one_each callee_decl.1 in
      let found = list_any-in (λ d. effect_covers d (effect_of inner)) callee_summary.0.effects (covered callee inner needed callee_summary.0 callee_summary.1) in
      let keeps = fill-keeps args (arguments-indexes p decl callee args has.1) in
      let among = filled-there callee args callee_decl.0 callee_summary.0 found.0 callee_decl.1 callee_summary.1 found.1 in
      summary-settled decl.params summary (filled_need args inner) (choice.of_parameters n decl summary has.0 there)
      (covers-wider summary (filled_need args inner) (fill_effect args found.0) (covers-map (fill_elem args) keeps inner found.0 found.2)
      (call-covered n decl summary callee args (fill_effect args found.0) has.0 there has.1 among))
