-- An accepted program in which calls of methods get narrower effects: its tasks fail no rule.
use Rattle.std.proofs.Common.{◌≡◌, ◌⊎◌, ℕ, Bool, true, false, List, inl, inr, sym, ap, subst}
use Rattle.std.specs.Prelude.{slice_get}
use Rattle.std.specs.List.{Contains}
use Rattle.twe_base.specs.declared.place.Place.{Place}
use Rattle.effect_sets.specs.declared.effects.Effect.{Effect}
use Rattle.effect_sets.specs.declared.effects.Summary.{Summary}
use Rattle.effect_sets.specs.Covers.{covers}
use Rattle.effect_sets.specs.Interference.{statically_interferes}
use Rattle.twe_program.specs.declared.program.Decl.{Decl}
use Rattle.twe_program.specs.Program.{Program}
use Rattle.twe_program.specs.Expression.{Arguments}
use Rattle.effect_check.specs.declared.act.Act.{Act}
use Rattle.effect_check.specs.declared.act.ActKind.{ActKind}
use Rattle.effect_check.specs.declared.act.ActKind.TheVariants as acts
use Rattle.effect_check.specs.declared.rule.ERule.{ERule}
use Rattle.effect_check.specs.declared.rule.ERule.TheVariants.{E1, E2, E3, E4, E5, E6, E7}
use Rattle.effect_check.specs.Standing.{elements_of}
use Rattle.effect_check.specs.Acts.{filled_summary, acts_in_all}
use Rattle.effect_check.specs.Acts as done
use Rattle.effect_check.specs.Covered.{Does, CoveredAt}
use Rattle.effect_check.specs.FailsEffect.{TaskFails, access, called, spawned, joined, spawned_again, made_later, waited, not_deterministic}
use Rattle.effect_infer.specs.needs.Choices.{with_summaries, NoRuleFails}
use Rattle.twe_base.proofs.Members.{IsIn, contains-in, in-contains}
use Rattle.effect_infer.proofs.needs.Alike.{IsCallIn, alike-in, alike-statements}

-- what covers the wide effect covers this one, and this one interferes with nothing else than the wide one does
pub record IsNarrower (effect wide : Effect) : Type 0 where
  pub covered : (s : Summary) → covers s wide ≡ true → covers s effect ≡ true
  pub less : (other : Effect) → statically_interferes effect other ≡ true → statically_interferes wide other ≡ true

module _ (p : Program) (summaries : List Summary) (task : Decl) where
  pub in-both : (point : ℕ) (kind : ActKind) → Does (with_summaries summaries p) task point kind
      → Does p task point kind ⊎ IsCallIn (with_summaries summaries p) p (record { point = point; kind = kind }) (acts_in_all p task.body.block)
  in-both point kind does =
      elim (alike-in (with_summaries summaries p) p (acts_in_all (with_summaries summaries p) task.body.block) (acts_in_all p task.body.block) (alike-statements p summaries task.body.block)
      (record { point = point; kind = kind }) (contains-in (acts_in_all (with_summaries summaries p) task.body.block) (record { point = point; kind = kind }) does)) [
        | inl there ↦ inl (in-contains (acts_in_all p task.body.block) (record { point = point; kind = kind }) there)
        | inr call ↦ inr call
      ]

  pub touch-too : (point : ℕ) (effect : Effect) (place : Place) → Does (with_summaries summaries p) task point (acts.Touch effect place) → Does p task point (acts.Touch effect place)
  touch-too point effect place does = elim (in-both point (acts.Touch effect place) does) [
    | inl there ↦ there
    | inr call ↦ absurd (let kinds = ap (λ (a : Act). a.kind) call.is in cc)
  ]

  make-too : (point future : ℕ) (is_spawn deterministic : Bool) (effects : Summary) (future_place place : Place)
      → Does (with_summaries summaries p) task point (acts.Make future is_spawn deterministic effects future_place place)
      → Does p task point (acts.Make future is_spawn deterministic effects future_place place)
  make-too point future is_spawn deterministic effects future_place place does =
      elim (in-both point (acts.Make future is_spawn deterministic effects future_place place) does) [
        | inl there ↦ there
        | inr call ↦ absurd (let kinds = ap (λ (a : Act). a.kind) call.is in cc)
      ]

  wait-too : (point future : ℕ) (join : Bool) (place : Place) → Does (with_summaries summaries p) task point (acts.Wait future join place) → Does p task point (acts.Wait future join place)
  wait-too point future join place does = elim (in-both point (acts.Wait future join place) does) [
    | inl there ↦ there
    | inr call ↦ absurd (let kinds = ap (λ (a : Act). a.kind) call.is in cc)
  ]

  -- what is covered with the declared summaries is covered with these, and so is what it covers
  covered-too : (point : ℕ) (wide effect : Effect) → IsNarrower effect wide
      → CoveredAt p task point wide → CoveredAt (with_summaries summaries p) task point effect
  covered-too point wide effect narrower covered = record {
    declared = narrower.covered task.summary covered.declared;
    free = λ at future deterministic effects future_place place does may other among meets.
        covered.free at future deterministic effects future_place place (make-too at future true deterministic effects future_place place does) may other among (narrower.less other meets);
  }

  covered-alike : (point : ℕ) (effect : Effect) → CoveredAt p task point effect → CoveredAt (with_summaries summaries p) task point effect
  covered-alike point effect covered = covered-too point effect effect (record { covered = λ s h. h; less = λ other meets. meets }) covered

-- the effects of each call of a method with the new summaries are narrower than some that it has with the old ones
abbrev pub CallsAreNarrower : Program → List Summary → Type 0
CallsAreNarrower p summaries =
    (method : ℕ) (given : Arguments) (effect : Effect) → IsIn effect (filled_summary (slice_get (with_summaries summaries p).methods method) (elements_of given)).effects
    → (wide : Effect) × IsIn wide (filled_summary (slice_get p.methods method) (elements_of given)).effects × IsNarrower effect wide

module _ (p : Program) (summaries : List Summary) (passes : NoRuleFails p) (narrower : CallsAreNarrower p summaries) where
  call-passes : (task : Decl) → Contains p.tasks task → (point : ℕ) (effects : Summary) (effect : Effect) (place : Place)
      → IsCallIn (with_summaries summaries p) p (record { point = point; kind = acts.Call effects place }) (acts_in_all p task.body.block)
      → Contains effects.effects effect → ¬ CoveredAt (with_summaries summaries p) task point effect → ⊥
  call-passes task there point effects effect place call among uncovered =
      let args = elements_of call.given in
      let kinds = ap (λ (a : Act). a.kind) call.is in
      let points : point ≡ call.point = ap (λ (a : Act). a.point) call.is in
      let same : effects ≡ filled_summary (slice_get (with_summaries summaries p).methods call.method) args = cc in
      let wide = narrower call.method call.given effect (subst (λ (s : Summary). IsIn effect s.effects) same (contains-in _ _ among)) in
      passes E2 call.place (inl (
        task,
        there,
        called call.point (filled_summary (slice_get p.methods call.method) args) wide.0 call.place
            (in-contains (acts_in_all p task.body.block) (done.call p call.point call.method call.given call.place) call.there) (in-contains _ _ wide.1)
            (λ covered. uncovered (subst (λ n. CoveredAt (with_summaries summaries p) task n effect) (sym points)
            (covered-too p summaries task call.point wide.0 effect wide.2 covered))),
      ))

  pub tasks-pass : (task : Decl) → Contains p.tasks task → (rule : ERule) (place : Place) → TaskFails (with_summaries summaries p) task rule place → ⊥
  tasks-pass task there rule place (access point effect at does uncovered) =
      passes E1 at (inl (task, there, access point effect at (touch-too p summaries task point effect at does) (λ covered. uncovered (covered-alike p summaries task point effect covered))))
  tasks-pass task there rule place (called point effects effect at does among uncovered) = elim (in-both p summaries task point (acts.Call effects at) does) [
    | inl also ↦ passes E2 at (inl (task, there, called point effects effect at also among (λ covered. uncovered (covered-alike p summaries task point effect covered))))
    | inr call ↦ call-passes task there point effects effect at call among uncovered
  ]
  tasks-pass task there rule place (spawned point future deterministic effects effect future_place at does among uncovered) =
      passes E3 at (inl (
        task,
        there,
        spawned point future deterministic effects effect future_place at
            (make-too p summaries task point future true deterministic effects future_place at does) among (λ covered. uncovered (covered-alike p summaries task point effect covered)),
      ))
  tasks-pass task there rule place (joined point future at does out) = passes E4 at (inl (task, there, joined point future at (wait-too p summaries task point future true at does) out))
  tasks-pass task there rule place (spawned_again point future deterministic effects at named does out) =
      passes E5 at (inl (task, there, spawned_again point future deterministic effects at named (make-too p summaries task point future true deterministic effects at named does) out))
  tasks-pass task there rule place (made_later point future deterministic effects future_place at does is) =
      passes E6 at (inl (task, there, made_later point future deterministic effects future_place at (make-too p summaries task point future false deterministic effects future_place at does) is))
  tasks-pass task there rule place (waited point future at does is) = passes E6 at (inl (task, there, waited point future at (wait-too p summaries task point future false at does) is))
  tasks-pass task there rule place (not_deterministic point future effects future_place at does is) =
      passes E7 at (inl (task, there, not_deterministic point future effects future_place at (make-too p summaries task point future true false effects future_place at does) is))
