-- What fails if a cause was found, and what does not if none was.
use Rattle.std.proofs.Common.{◌≡◌, ◌∙◌, ℕ, Bool, true, false, IsTrue, List, [], ◌∷◌, Some, inl, inr, refl, sym, subst}
use Rattle.std.specs.Prelude.{Contains}
use Rattle.std.proofs.lemmas.Bool.{false≢true}
use Rattle.std.proofs.lemmas.List.Elements.{All-cons, All-contains, All-nil}
use Rattle.std.proofs.lemmas.Option.{none-some, same_Some}
use Rattle.twe_base.specs.declared.place.Place.{Place}
use Rattle.effect_sets.specs.declared.effects.Effect.{Effect}
use Rattle.effect_sets.specs.Covers.{covers}
use Rattle.twe_program.specs.declared.program.Decl.{Decl}
use Rattle.twe_program.specs.Program.{Program}
use Rattle.effect_check.specs.declared.act.ActKind.{ActKind}
use Rattle.effect_check.specs.declared.act.ActKind.TheVariants.{Touch, Call, Make, Wait}
use Rattle.effect_check.specs.declared.rule.ERule.{ERule}
use Rattle.effect_check.specs.declared.rule.ERule.TheVariants.{E1, E2, E3, E6, E7, E8}
use Rattle.effect_check.specs.Covered.{CoveredAt, Does}
use Rattle.effect_check.specs.FailsEffect.{EffectFailure, FailsEffect, TaskFails, MethodFails}
use Rattle.effect_check.specs.FailsEffect as rules
use Rattle.refusal_causes.specs.declared.barring.SpawnBar.{SpawnBar}
use Rattle.refusal_causes.specs.declared.cause.RuleCause.{RuleCause}
use Rattle.refusal_causes.specs.declared.cause.RuleCause.TheVariants.{Undeclared, Out, NotOut, OutAgain, OrderOpen, NotDeterministic}
use Rattle.refusal_causes.specs.Barring.{IsSpawnBar}
use Rattle.refusal_causes.specs.Causes.{IsCause, IsCauseIn, IsUndeclared, has_open_order, spawns_other}
use Rattle.refusal_causes.specs.Seeking.{is_of_needs, needs_at, needs_of}
use Rattle.refusal_causes.specs.inner.Keeping.{need_at}
use Rattle.refusal_causes.specs.inner.Listed.{decls_of}
use Rattle.refusal_causes.proofs.Needs.{is_there, same_place}

-- the program fails the rule, and this is a cause
abbrev pub FailsBy : Program → RuleCause → EffectFailure → Type 0
FailsBy p cause f = FailsEffect p f.rule f.place × IsCause p false f.rule f.place cause

module _ (p : Program) where
  -- ---- an effect that is not declared
  module _ (decl : Decl) (point : ℕ) (need : Effect) (outside : ¬ IsTrue (covers decl.summary need)) where
    undeclared_at : (kind : ActKind) (place : Place) → Does p decl point kind → IsTrue (needs_at place kind) → Contains (needs_of kind) need
        → IsUndeclared p decl place need
    undeclared_at kind place does there needed = record {
      point = point;
      needs = record { kind = kind; does = does; there = there; needs = needed };
      outside = outside;
    }

    abbrev pub cause : RuleCause
    cause = Undeclared need decl.summary decl.place

    not_covered : CoveredAt p decl point need → ⊥
    not_covered covered = outside covered.declared

    alone : (effect : Effect) → Contains (effect ∷ []) need → effect ≡ need
    alone effect there =
        All-contains (λ (e : Effect). effect ≡ e) (effect ∷ []) need (All-cons (λ (e : Effect). effect ≡ e) effect [] refl (All-nil (λ (e : Effect). effect ≡ e))) there

    -- it is needed where the rule on needs fails
    pub undeclared_fails : (of_methods : Bool) → Contains (decls_of p of_methods) decl → (kind : ActKind) → Does p decl point kind
        → (f : EffectFailure) → need_at of_methods kind ≡ Some f → Contains (needs_of kind) need → FailsBy p cause f
    undeclared_fails false inside (Touch effect place) does f is needed =
        subst (FailsBy p cause) (same_Some (record { rule = E1; place = place }) f is) (
          inl (decl, inside, rules.access point effect place does (subst (λ (e : Effect). ¬ CoveredAt p decl point e) (sym (alone effect needed)) not_covered)),
          (decl, inside, (refl, refl, refl, undeclared_at (Touch effect place) place does (is_there place) needed)),
        )
    undeclared_fails false inside (Call effects place) does f is needed =
        subst (FailsBy p cause) (same_Some (record { rule = E2; place = place }) f is) (
          inl (decl, inside, rules.called point effects need place does needed not_covered),
          (decl, inside, (refl, refl, refl, undeclared_at (Call effects place) place does (is_there place) needed)),
        )
    undeclared_fails false inside (Make future true deterministic effects future_place place) does f is needed =
        subst (FailsBy p cause) (same_Some (record { rule = E3; place = place }) f is) (
          inl (decl, inside, rules.spawned point future deterministic effects need future_place place does needed not_covered),
          (
            decl,
            inside,
            (refl, refl, refl, undeclared_at (Make future true deterministic effects future_place place) place does (is_there place) needed),
          ),
        )
    undeclared_fails true inside (Touch effect place) does f is needed =
        subst (FailsBy p cause) (same_Some (record { rule = E8; place = place }) f is) (
          inr (decl, inside, rules.access_outside point effect place does (subst (λ (e : Effect). ¬ IsTrue (covers decl.summary e)) (sym (alone effect needed)) outside)),
          (decl, inside, (refl, refl, refl, undeclared_at (Touch effect place) place does (is_there place) needed)),
        )
    undeclared_fails true inside (Call effects place) does f is needed =
        subst (FailsBy p cause) (same_Some (record { rule = E8; place = place }) f is) (
          inr (decl, inside, rules.called_outside point effects need place does needed outside),
          (decl, inside, (refl, refl, refl, undeclared_at (Call effects place) place does (is_there place) needed)),
        )
    undeclared_fails true inside (Make future true deterministic effects future_place place) does f is needed = absurd (none-some f is)
    undeclared_fails true inside (Make future false deterministic effects future_place place) does f is needed = absurd (none-some f is)
    undeclared_fails false inside (Make future false deterministic effects future_place place) does f is needed = absurd (none-some f is)
    undeclared_fails true inside (Wait future join place) does f is needed = absurd (none-some f is)
    undeclared_fails false inside (Wait future join place) does f is needed = absurd (none-some f is)

  module _ (task : Decl) (inside : Contains p.tasks task) where
    -- ---- an effect that is barred
    module _ (point : ℕ) (needs : List Effect) (bar : SpawnBar) (barred : IsSpawnBar p false task point needs bar) where
      not_free : CoveredAt p task point bar.need → ⊥
      not_free covered =
          let b = barred.1 in
          covered.free b.at b.future b.deterministic b.effects bar.future_place b.place b.spawns b.out bar.other b.has b.interferes

      abbrev pub out_cause : RuleCause
      out_cause = Out bar.need bar.other bar.future_place bar.way task.place

      -- the rule on needs fails
      pub barred_fails : (kind : ActKind) → needs ≡ needs_of kind → Does p task point kind → (f : EffectFailure) → need_at false kind ≡ Some f
          → FailsBy p out_cause f
      barred_fails kind is does f at = by_kind kind (subst (λ (xs : List Effect). Contains xs bar.need) is barred.0) does at where
        caused : (k : ActKind) (place : Place) → Contains (needs_of k) bar.need → Does p task point k → IsTrue (needs_at place k)
            → (rule : ERule) → IsTrue (is_of_needs rule) → IsCauseIn p false rule place task out_cause
        caused k place needed done there rule of = (
          of,
          refl,
          record { point = point; needs = record { kind = k; does = done; there = there; needs = needed }; barred = barred.1 },
        )

        alone_needed : (effect : Effect) → Contains (effect ∷ []) bar.need → effect ≡ bar.need
        alone_needed effect there =
            All-contains (λ (e : Effect). effect ≡ e) (effect ∷ []) bar.need (All-cons (λ (e : Effect). effect ≡ e) effect [] refl (All-nil (λ (e : Effect). effect ≡ e))) there

        by_kind : (k : ActKind) → Contains (needs_of k) bar.need → Does p task point k → need_at false k ≡ Some f → FailsBy p out_cause f
        by_kind (Touch effect place) needed done there =
            subst (FailsBy p out_cause) (same_Some (record { rule = E1; place = place }) f there) (
              inl (
                task,
                inside,
                rules.access point effect place done
                    (subst (λ (e : Effect). ¬ CoveredAt p task point e) (sym (alone_needed effect needed)) not_free),
              ),
              (task, inside, caused (Touch effect place) place needed done (is_there place) E1 refl),
            )
        by_kind (Call effects place) needed done there =
            subst (FailsBy p out_cause) (same_Some (record { rule = E2; place = place }) f there) (
              inl (task, inside, rules.called point effects bar.need place done needed not_free),
              (task, inside, caused (Call effects place) place needed done (is_there place) E2 refl),
            )
        by_kind (Make future true deterministic effects future_place place) needed done there =
            subst (FailsBy p out_cause) (same_Some (record { rule = E3; place = place }) f there) (
              inl (task, inside, rules.spawned point future deterministic effects bar.need future_place place done needed not_free),
              (task, inside, caused (Make future true deterministic effects future_place place) place needed done (is_there place) E3 refl),
            )
        by_kind (Make future false deterministic effects future_place place) needed done there = absurd (none-some f there)
        by_kind (Wait future join place) needed done there = absurd (none-some f there)

    -- ---- the rules that do not ask for effects
    order_fails : (point : ℕ) (kind : ActKind) (place : Place) (makes : Bool) → Does p task point kind
        → IsTrue (has_open_order place makes kind) → IsTrue task.deterministic → TaskFails p task E6 place
    order_fails point (Touch effect at) place makes does such strict = absurd (false≢true such)
    order_fails point (Call effects at) place makes does such strict = absurd (false≢true such)
    order_fails point (Make future true deterministic effects future_place at) place true does such strict = absurd (false≢true such)
    order_fails point (Make future spawned deterministic effects future_place at) place false does such strict = absurd (false≢true such)
    order_fails point (Make future false deterministic effects future_place at) place true does such strict =
        rules.made_later point future deterministic effects future_place place
        (subst (λ (q : Place). Does p task point (Make future false deterministic effects future_place q)) (same_place at place such) does) strict
    order_fails point (Wait future join at) place true does such strict = absurd (false≢true such)
    order_fails point (Wait future true at) place false does such strict = absurd (false≢true such)
    order_fails point (Wait future false at) place false does such strict =
        rules.waited point future place (subst (λ (q : Place). Does p task point (Wait future false q)) (same_place at place such) does) strict

    child_fails : (point : ℕ) (kind : ActKind) (place : Place) → Does p task point kind → IsTrue (spawns_other place kind)
        → IsTrue task.deterministic → TaskFails p task E7 place
    child_fails point (Touch effect at) place does such strict = absurd (false≢true such)
    child_fails point (Call effects at) place does such strict = absurd (false≢true such)
    child_fails point (Make future false deterministic effects future_place at) place does such strict = absurd (false≢true such)
    child_fails point (Make future true true effects future_place at) place does such strict = absurd (false≢true such)
    child_fails point (Make future true false effects future_place at) place does such strict =
        rules.not_deterministic point future effects future_place place
        (subst (λ (q : Place). Does p task point (Make future true false effects future_place q)) (same_place at place such) does) strict
    child_fails point (Wait future join at) place does such strict = absurd (false≢true such)

    -- what has a cause fails
    pub cause_fails : (rule : ERule) (place : Place) (cause : RuleCause) → is_of_needs rule ≡ false → IsCauseIn p false rule place task cause
        → FailsBy p cause (record { rule = rule; place = place })
    cause_fails rule place (Undeclared need declared decl_place) late h = absurd (false≢true (sym late ∙ h.0))
    cause_fails rule place (Out need other future_place way decl_place) late h = absurd (false≢true (sym late ∙ h.0))
    cause_fails rule place (NotOut made way) late h =
        subst (λ (r : ERule). FailsBy p (NotOut made way) (record { rule = r; place = place })) (sym h.0) (
          inl (
            task,
            inside,
            rules.joined h.1.point h.1.future place
                (subst (λ (q : Place). Does p task h.1.point (Wait h.1.future true q)) (same_place h.1.at place h.1.there) h.1.joins) h.1.not_out,
          ),
          (task, inside, (refl, h.1)),
        )
    cause_fails rule place (OutAgain way) late h =
        subst (λ (r : ERule). FailsBy p (OutAgain way) (record { rule = r; place = place })) (sym h.0) (
          inl (
            task,
            inside,
            rules.spawned_again h.1.point h.1.future h.1.deterministic h.1.effects place h.1.task_place
                (subst (λ (q : Place). Does p task h.1.point (Make h.1.future true h.1.deterministic h.1.effects q h.1.task_place))
                (same_place h.1.at place h.1.there) h.1.spawns) h.1.out,
          ),
          (task, inside, (refl, h.1)),
        )
    cause_fails rule place (OrderOpen makes decl_place) late h =
        subst (λ (r : ERule). FailsBy p (OrderOpen makes decl_place) (record { rule = r; place = place })) (sym h.0) (
          inl (task, inside, order_fails h.1.point h.1.kind place makes h.1.does h.1.is_such h.1.strict),
          (task, inside, (refl, h.1)),
        )
    cause_fails rule place (NotDeterministic decl_place) late h =
        subst (λ (r : ERule). FailsBy p (NotDeterministic decl_place) (record { rule = r; place = place })) (sym h.0) (
          inl (task, inside, child_fails h.1.point h.1.kind place h.1.does h.1.is_such h.1.strict),
          (task, inside, (refl, h.1)),
        )
