-- The order of the effects in a summary does not matter to the rules on effects.
use Rattle.std.proofs.Common.{◌≡◌, ℕ, true, List, [], ◌∷◌, length, Option, Some, zero, suc, inl, inr, refl, sym, ap, ◌∙◌, subst, arith}
use Rattle.std.specs.Prelude.{slice_get}
use Rattle.std.specs.List.{AllZip, Contains}
use Rattle.twe_base.specs.declared.place.Place.{Place}
use Rattle.region_paths.specs.declared.elements.Elem.{Elem}
use Rattle.effect_sets.specs.declared.effects.Effect.{Effect}
use Rattle.effect_sets.specs.declared.effects.Summary.{Summary}
use Rattle.effect_sets.specs.Covers.{covers, effect_covers}
use Rattle.effect_sets.specs.Filled.{fill_effect}
use Rattle.twe_program.specs.declared.program.Decl.{Decl}
use Rattle.twe_program.specs.Program.{Program}
use Rattle.twe_program.specs.Expression.{Arguments}
use Rattle.effect_check.specs.declared.act.Act.{Act}
use Rattle.effect_check.specs.declared.act.ActKind.TheVariants as acts
use Rattle.effect_check.specs.declared.rule.ERule.{ERule}
use Rattle.effect_check.specs.declared.rule.ERule.TheVariants.{E8}
use Rattle.effect_check.specs.Standing.{elements_of}
use Rattle.effect_check.specs.Acts.{filled_summary, acts_in_all}
use Rattle.effect_check.specs.Acts as done
use Rattle.effect_check.specs.FailsEffect.{MethodFails, access_outside, called_outside}
use Rattle.twe_base.proofs.Members.{IsIn, contains-in, in-contains, list_any-in, in-list_any}
use Rattle.effect_infer.specs.needs.Choices.{with_each, with_summaries, NoRuleFails}
use Rattle.effect_infer.proofs.needs.Relation.{with_one, with_each-in, with_each-got, get-in}
use Rattle.effect_infer.proofs.needs.Soundness.{filled-in}
use Rattle.effect_infer.proofs.needs.Leastness.{map-in}
use Rattle.effect_infer.proofs.needs.Narrowing.{IsNarrower, in-both, touch-too, tasks-pass}
use Rattle.summary_texts.specs.paste_laws.Pasted.{HaveSameEffects}

zipped-at : (ws ns : List Summary) → AllZip HaveSameEffects ws ns → (m : ℕ) (w n : Summary) → slice_get ws m ≡ Some w → slice_get ns m ≡ Some n → HaveSameEffects w n
zipped-at [] ns same m w n e f = absurd (cc)
zipped-at (x ∷ ws) [] same m w n e f = absurd same
zipped-at (x ∷ ws) (y ∷ ns) same zero w n e f =
    let first : x ≡ w = cc in
    let other : y ≡ n = cc in
    subst (λ (s : Summary). HaveSameEffects s n) first (subst (HaveSameEffects x) other same.0)
zipped-at (x ∷ ws) (y ∷ ns) same (suc m) w n e f = zipped-at ws ns same.1 m w n e f

zipped-long : (ws ns : List Summary) → AllZip HaveSameEffects ws ns → length ws ≡ length ns
zipped-long [] [] same = refl
zipped-long [] (y ∷ ns) same = absurd same
zipped-long (x ∷ ws) [] same = absurd same
zipped-long (x ∷ ws) (y ∷ ns) same = ap suc (zipped-long ws ns same.1)

-- summaries in the place of others that are in the place of the declared ones
each-again : (ws ns : List Summary) (decls : List Decl) → AllZip HaveSameEffects ws ns → length ns ≡ length decls → with_each ws (with_each ns decls) ≡ with_each ws decls
each-again ws ns [] same e = refl
each-again [] [] (d ∷ decls) same e = refl
each-again [] (y ∷ ns) (d ∷ decls) same e = absurd same
each-again (x ∷ ws) [] (d ∷ decls) same e = absurd same
each-again (x ∷ ws) (y ∷ ns) (d ∷ decls) same e = ap (λ (ds : List Decl). record d { summary = x } ∷ ds) (each-again ws ns decls same.1 (omega (arith, e)))

each-long : (ns : List Summary) (decls : List Decl) → length ns ≡ length decls → length (with_each ns decls) ≡ length decls
each-long ns [] e = refl
each-long [] (d ∷ decls) e = refl
each-long (y ∷ ns) (d ∷ decls) e = ap suc (each-long ns decls (omega (arith, e)))

covers-same : (one other : Summary) → HaveSameEffects one other → (effect : Effect) → covers other effect ≡ true → covers one effect ≡ true
covers-same one other same effect h =
    let found = list_any-in (λ d. effect_covers d effect) other.effects h in
    in-list_any (λ d. effect_covers d effect) one.effects found.0 (contains-in _ _ ((same found.0).1 (in-contains _ _ found.1))) found.2

narrow-same : (effect : Effect) → IsNarrower effect effect
narrow-same effect = record { covered = λ s h. h; less = λ other meets. meets }

module _ (p : Program) (summaries written : List Summary) (long : length summaries ≡ length p.methods) (same : AllZip HaveSameEffects written summaries)
    (passes : NoRuleFails (with_summaries summaries p)) where
  -- the declaration of a method with a summary that is written, and the one with the same effects
  two-of : (m : ℕ) (decl : Decl) → slice_get (with_each written (with_each summaries p.methods)) m ≡ Some decl
      → (other : Decl) × (slice_get (with_each summaries p.methods) m ≡ Some other) × HaveSameEffects decl.summary other.summary
  two-of m decl there =
      let count = zipped-long written summaries same ∙ long ∙ sym (each-long summaries p.methods long) in
      let now = with_each-got written (with_each summaries p.methods) m decl count there in
      let before = with_each-got summaries p.methods m now.0 long now.2 in (
        now.0,
        now.2,
        subst (λ (d : Decl). HaveSameEffects d.summary now.0.summary) (sym now.4)
            (subst (λ (d : Decl). HaveSameEffects now.1 d.summary) (sym before.4) (zipped-at written summaries same m now.1 before.1 now.3 before.3)),
      )

  -- the effects of a call are the same
  same-call : (m : ℕ) (args : List Elem) (effect : Effect) → IsIn effect (filled_summary (slice_get (with_each written (with_each summaries p.methods)) m) args).effects
      → IsIn effect (filled_summary (slice_get (with_each summaries p.methods) m) args).effects
  same-call m args effect among =
      let found = filled-in p m args (slice_get (with_each written (with_each summaries p.methods)) m) effect among in
      let from = found.2 in
      let two = two-of m found.0 found.1 in
      let there : IsIn from.0 two.0.summary.effects = contains-in _ _ ((two.2 from.0).0 (in-contains _ _ from.1)) in
      subst (λ (o : Option Decl). IsIn effect (filled_summary o args).effects) (sym two.1)
      (subst (λ (e : Effect). IsIn e (filled_summary (Some two.0) args).effects) (sym from.2) (map-in (fill_effect args) two.0.summary.effects from.0 there))

  narrower : (m : ℕ) (given : Arguments) (effect : Effect) → IsIn effect (filled_summary (slice_get (with_each written (with_each summaries p.methods)) m) (elements_of given)).effects
      → (wide : Effect) × IsIn wide (filled_summary (slice_get (with_each summaries p.methods) m) (elements_of given)).effects × IsNarrower effect wide
  narrower m given effect among = (effect, same-call m (elements_of given) effect among, narrow-same effect)

  -- a method with a summary that is written fails its rule no more than with the other
  method-passes : (decl : Decl) (w : Summary) → Contains (with_summaries summaries p).methods decl → HaveSameEffects w decl.summary → (rule : ERule) (place : Place)
      → MethodFails (with_summaries written (with_summaries summaries p)) (with_one decl w) rule place → ⊥
  method-passes decl w there alike rule place (access_outside point effect at does outside) =
      passes E8 at (inr (
        decl,
        there,
        access_outside point effect at (touch-too (with_summaries summaries p) written decl point effect at does)
            (λ covered. outside (covers-same w decl.summary alike effect covered)),
      ))
  method-passes decl w there alike rule place (called_outside point effects effect at does among outside) =
      elim (in-both (with_summaries summaries p) written decl point (acts.Call effects at) does) [
        | inl also ↦ passes E8 at (inr (decl, there, called_outside point effects effect at also among (λ covered. outside (covers-same w decl.summary alike effect covered))))
        | inr call ↦
            let kinds = ap (λ (a : Act). a.kind) call.is in
            let args = elements_of call.given in
            let is : effects ≡ filled_summary (slice_get (with_each written (with_each summaries p.methods)) call.method) args = cc in
            let here = same-call call.method args effect (subst (λ (s : Summary). IsIn effect s.effects) is (contains-in _ _ among)) in
            passes E8 call.place (inr (
              decl,
              there,
              called_outside call.point (filled_summary (slice_get (with_each summaries p.methods) call.method) args) effect call.place
                  (in-contains (acts_in_all (with_summaries summaries p) decl.body.block) (done.call (with_summaries summaries p) call.point call.method call.given call.place) call.there)
                  (in-contains _ _ here) (λ covered. outside (covers-same w decl.summary alike effect covered)),
            ))
      ]

  again : NoRuleFails (with_summaries written (with_summaries summaries p))
  again rule place (inl task) = tasks-pass (with_summaries summaries p) written passes narrower task.0 task.1 rule place task.2
  again rule place (inr method) =
      let count = zipped-long written summaries same ∙ long ∙ sym (each-long summaries p.methods long) in
      let made = with_each-in written (with_each summaries p.methods) method.0 count (contains-in _ _ method.1) in
      let before = with_each-got summaries p.methods made.0 made.1 long made.3 in
      let alike = subst (λ (d : Decl). HaveSameEffects made.2 d.summary) (sym before.4) (zipped-at written summaries same made.0 made.2 before.1 made.4 before.3) in
      method-passes made.1 made.2 (in-contains _ _ (get-in _ made.0 made.1 made.3)) alike rule place
      (subst (λ (d : Decl). MethodFails (with_summaries written (with_summaries summaries p)) d rule place) made.5 method.2)

  pub order-apart : NoRuleFails (with_summaries written p)
  order-apart = subst NoRuleFails (ap (λ (ms : List Decl). record p { methods = ms }) (each-again written summaries p.methods same long)) again
