-- Summaries made of needs that cover all needs are accepted.
use Rattle.std.proofs.Common.{◌≡◌, ◌⊎◌, ℕ, Bool, true, false, List, [], ◌∷◌, map, length, Option, None, Some, inl, inr, refl, sym, ap, ◌∙◌, subst}
use Rattle.std.specs.Prelude.{slice_get}
use Rattle.std.specs.List.{Contains, list_any}
use Rattle.twe_base.specs.declared.place.Place.{Place}
use Rattle.region_paths.specs.declared.elements.Elem.{Elem}
use Rattle.effect_sets.specs.declared.effects.Effect.{Effect}
use Rattle.effect_sets.specs.declared.effects.Summary.{Summary}
use Rattle.effect_sets.specs.Covers.{covers, effect_covers}
use Rattle.effect_sets.specs.Filled.{fill_effect, fill_summary}
use Rattle.twe_program.specs.declared.program.Decl.{Decl}
use Rattle.twe_program.specs.Program.{Program}
use Rattle.effect_check.specs.declared.act.ActKind.TheVariants as acts
use Rattle.effect_check.specs.declared.rule.ERule.{ERule}
use Rattle.effect_check.specs.declared.rule.ERule.TheVariants.{E1, E2, E3, E4, E5, E6, E7, E8}
use Rattle.effect_check.specs.Acts.{filled_summary}
use Rattle.effect_check.specs.Covered.{Does}
use Rattle.effect_check.specs.FailsEffect.{TaskFails, MethodFails, FailsEffect, access, called, spawned, joined, spawned_again, made_later, waited, not_deterministic, access_outside, called_outside}
use Rattle.effect_infer.specs.declared.needs.need.Need.{Need}
use Rattle.effect_infer.specs.declared.needs.need.BodyStep.TheVariants as steps
use Rattle.effect_infer.specs.needs.Steps.{steps_in_all}
use Rattle.effect_infer.specs.needs.Needs.{IsNeed, effect_of, settled, filled_need}
use Rattle.effect_infer.specs.needs.Needs as needs
use Rattle.effect_infer.specs.needs.Choices.{with_summaries, NoMethodFails, HasNeeds, CoversNeeds}
use Rattle.twe_base.proofs.Members.{IsIn, contains-in, in-contains, list_any-in, in-list_any}
use Rattle.effect_infer.proofs.needs.Inside.{covers-trans, settled-covers}
use Rattle.effect_infer.proofs.needs.Relation.{touch-step, call-step, with_one, with_each-got, with_each-in}

-- what covers a wider effect covers the need
pub covers-wider : (s : Summary) (need : Need) (wide : Effect) → effect_covers wide (effect_of need) ≡ true → covers s wide ≡ true → covers s (effect_of need) ≡ true
covers-wider s need wide h k =
    let found = list_any-in (λ d. effect_covers d wide) s.effects k in
    in-list_any (λ d. effect_covers d (effect_of need)) s.effects found.0 found.1 (covers-trans need wide found.0 h found.2)

-- tasks fail other rules than methods
no-task : (p : Program) (task : Decl) (rule : ERule) (place : Place) → TaskFails p task rule place → rule ≡ E8 → ⊥
no-task p task rule place (access point effect at does uncovered) e = cc
no-task p task rule place (called point effects effect at does there uncovered) e = cc
no-task p task rule place (spawned point future deterministic effects effect future_place at does there uncovered) e = cc
no-task p task rule place (joined point future at does out) e = cc
no-task p task rule place (spawned_again point future deterministic effects future_place at does out) e = cc
no-task p task rule place (made_later point future deterministic effects future_place at does is) e = cc
no-task p task rule place (waited point future at does is) e = cc
no-task p task rule place (not_deterministic point future effects future_place at does is) e = cc

-- an element of the image of a list
map-effects-in : (f : Effect → Effect) (xs : List Effect) (y : Effect) → IsIn y (map f xs) → (x : Effect) × IsIn x xs × (y ≡ f x)
map-effects-in f [] y h = absurd h
map-effects-in f (x ∷ xs) y (inl e) = (x, inl refl, e)
map-effects-in f (x ∷ xs) y (inr h) = let found = map-effects-in f xs y h in (found.0, inr found.1, found.2)

-- the effects of a called method, filled with the arguments
pub filled-in : (q : Program) (callee : ℕ) (args : List Elem) (found : Option Decl) (effect : Effect) → IsIn effect (filled_summary found args).effects
    → (decl : Decl) × (found ≡ Some decl) × ((e : Effect) × IsIn e decl.summary.effects × (effect ≡ fill_effect args e))
filled-in q callee args None effect h = absurd h
filled-in q callee args (Some decl) effect h = (decl, refl, map-effects-in (fill_effect args) decl.summary.effects effect h)

module _ (p : Program) (summaries : List Summary) (one_each : length summaries ≡ length p.methods) (has : HasNeeds p summaries) (all : CoversNeeds p summaries) where
  -- a read or a write of a method is covered
  covered-touch : (m : ℕ) (decl : Decl) (summary : Summary) (need : Need) → slice_get p.methods m ≡ Some decl → slice_get summaries m ≡ Some summary
      → Contains (steps_in_all p.cells decl.body.block) (steps.Touch need) → covers summary (effect_of need) ≡ true
  covered-touch m decl summary need is there step =
      covers-wider summary need (effect_of (settled decl.params need)) (settled-covers decl.params need)
      (all m summary (settled decl.params need) there (needs.own m decl need (is, step)))

  -- and so is each effect of a method that it calls
  covered-call : (m : ℕ) (decl : Decl) (summary : Summary) (callee : ℕ) (args : List Elem) (need : Need) → slice_get p.methods m ≡ Some decl → slice_get summaries m ≡ Some summary
      → Contains (steps_in_all p.cells decl.body.block) (steps.Call callee args) → IsNeed p callee need → covers summary (effect_of (filled_need args need)) ≡ true
  covered-call m decl summary callee args need is there step needed =
      covers-wider summary (filled_need args need) (effect_of (settled decl.params (filled_need args need))) (settled-covers decl.params (filled_need args need))
      (all m summary (settled decl.params (filled_need args need)) there (needs.called m decl callee args need (is, step) needed))

  -- an effect of a called method comes from a need of it
  pub called-need : (callee : ℕ) (args : List Elem) (effect : Effect) → IsIn effect (filled_summary (slice_get (with_summaries summaries p).methods callee) args).effects
      → (need : Need) × IsNeed p callee need × (effect ≡ effect_of (filled_need args need))
  called-need callee args effect h =
      let found = filled-in (with_summaries summaries p) callee args (slice_get (with_summaries summaries p).methods callee) effect h in
      let from = found.2 in
      let made = with_each-got summaries p.methods callee found.0 one_each found.1 in
      let is = has callee made.1 from.0 made.3 (in-contains _ _ (subst (λ (d : Decl). IsIn from.0 d.summary.effects) made.4 from.1)) in
      (is.0, is.1, from.2 ∙ ap (fill_effect args) is.2)

  method-passes : (m : ℕ) (decl : Decl) (summary : Summary) (rule : ERule) (place : Place) → slice_get p.methods m ≡ Some decl → slice_get summaries m ≡ Some summary
      → MethodFails (with_summaries summaries p) (with_one decl summary) rule place → ⊥
  method-passes m decl summary rule place is there (access_outside point effect at does outside) =
      let step = touch-step (with_summaries summaries p) (with_one decl summary) point effect at does in
      outside (subst (λ e. covers summary e ≡ true) (sym step.2) (covered-touch m decl summary step.0 is there step.1))
  method-passes m decl summary rule place is there (called_outside point effects effect at does among outside) =
      let step = call-step (with_summaries summaries p) (with_one decl summary) point effects at does in
      let from = called-need step.0 step.1 effect (subst (λ (s : Summary). IsIn effect s.effects) step.3 (contains-in _ _ among)) in
      outside (subst (λ e. covers summary e ≡ true) (sym from.2) (covered-call m decl summary step.0 step.1 from.0 is there step.2 from.1))

  pub accepted : NoMethodFails (with_summaries summaries p)
  accepted place (inl task) = no-task (with_summaries summaries p) task.0 E8 place task.2 refl
  accepted place (inr method) =
      let made = with_each-in summaries p.methods method.0 one_each (contains-in _ _ method.1) in
      method-passes made.0 made.1 made.2 E8 place made.3 made.4 (subst (λ d. MethodFails (with_summaries summaries p) d E8 place) made.5 method.2)
