-- How a child that is still to be placed stands to other tasks: by the records of its parent.
use Rattle.std.proofs.Common.{◌≡◌, ◌≢◌, ℕ, List, refl, sym, ap, subst, ◌∙◌, ◌⊎◌, inl, inr, ⊎_elim}
use Rattle.std.specs.Prelude.{Contains}
use Rattle.std.proofs.lemmas.Bool.{cases_eq}
use Rattle.effect_sets.specs.declared.effects.Effect.{Effect}
use Rattle.effect_sets.specs.Interference.{Interferes}
use Rattle.wait_graph.specs.declared.tasks.Link.{Link}
use Rattle.wait_graph.specs.Chain.{none, more}
use Rattle.wait_graph.specs.Waiting.{SpawnedBy, WaitsForNobody, DescendsFrom, YieldsTo}
use Rattle.wait_graph.proofs.WaitingLemmas.{YieldsTo-alone}
use Rattle.floor_laws.specs.admission.admission_core.Tasks.{Task, Tasks, Made, Enabled, Faulted, IsTask, TaskHasStatus}
use Rattle.floor_laws.specs.admission.admission_core.Conditions.{MeetsConditions, HasRunBefore}
use Rattle.floor_laws.proofs.admission.admission_core.EffectLemmas.{mutual_interference, filled_among, covered_more, some_interfere}
use Rattle.floor_laws.proofs.admission.admission_core.PutLemmas.{some_one, not_some}

pub one_task : (ts : Tasks) (t : ℕ) (a b : Task) → IsTask ts t a → IsTask ts t b → a ≡ b
one_task ts t a b is_a is_b = some_one (sym is_a ∙ is_b)

made_enabled : Made ≡ Enabled → ⊥
made_enabled h = cc

made_faulted : Made ≡ Faulted → ⊥
made_faulted h = cc

pub made_not_enabled : (ts : Tasks) (t : ℕ) → TaskHasStatus ts t Made → TaskHasStatus ts t Enabled → ⊥
made_not_enabled ts t m e = made_enabled (sym m.2 ∙ ap (λ (x : Task). x.status) (one_task ts t m.0 e.0 m.1 e.1) ∙ e.2)

pub made_not_run : (ts : Tasks) (t : ℕ) → TaskHasStatus ts t Made → HasRunBefore ts t → ⊥
made_not_run ts t m (inl e) = made_not_enabled ts t m e
made_not_run ts t m (inr f) = made_faulted (sym m.2 ∙ ap (λ (x : Task). x.status) (one_task ts t m.0 f.0 m.1 f.1) ∙ f.2)

-- who descends from p is p, or descends from an unjoined child of p
pub by_child : (links : List Link) {q p : ℕ} → DescendsFrom links q p → (q ≡ p) ⊎ ((c : ℕ) × DescendsFrom links q c × SpawnedBy links c p)
by_child links none = inl refl
by_child links {q} {p} (more {b = b} step chain) =
    ⊎_elim
    (λ (same : b ≡ p). inr (q, none, subst (λ (x : ℕ). SpawnedBy links q x) same step))
    (λ (low : (c : ℕ) × DescendsFrom links b c × SpawnedBy links c p). inr (low.0, more step low.1, low.2))
    (by_child links chain)

-- a task that is still to be admitted descends from itself alone
made_alone : (ts : Tasks) → MeetsConditions ts → {u p : ℕ} → TaskHasStatus ts u Made → DescendsFrom ts.links u p → u ≡ p
made_alone ts given made none = refl
made_alone ts given {u} made (more {b = b} step chain) = absurd (not_some (sym (given.alone u made) ∙ step.parent))

module _ (ts : Tasks) (given : MeetsConditions ts) where
  has_task : (t : ℕ) → HasRunBefore ts t → (task : Task) × IsTask ts t task
  has_task t (inl enabled) = (enabled.0, enabled.1)
  has_task t (inr faulted) = (faulted.0, faulted.1)

  -- an effect of a task lies inside one of each of its ancestors
  pub ancestor_covers : {q c : ℕ} → DescendsFrom ts.links q c → (task : Task) (f : Effect) → IsTask ts q task → Contains task.effects f
      → (above : Task) × IsTask ts c above × ((d : Effect) × Contains above.effects d × ((x : Effect) → Interferes x f → Interferes x d))
  ancestor_covers none task f is has = (task, is, (f, has, λ x i. i))
  ancestor_covers {q} (more {b = b} step chain) task f is has =
      let up = has_task b (given.parent q b step) in
      let d = given.inside q b task up.0 is up.1 step f has in
      let rest = ancestor_covers chain up.0 d.0 up.1 d.1 in (
        rest.0,
        rest.1,
        (rest.2.0, rest.2.1, λ x i. rest.2.2 x (covered_more x d.0 f (filled_among up.0.effects d.0 (given.filled b up.0 up.1) d.1) (filled_among task.effects f (given.filled q task is) has) d.2 i)),
      )

  -- who has an effect that interferes with the child's yields to the child or the other way round, if this holds for the
  -- parent, which waits for nobody
  pub yields_by_parent : (c p q : ℕ) (child task : Task) (e f : Effect) → SpawnedBy ts.links c p → WaitsForNobody ts.links p
      → IsTask ts c child → Contains child.effects e → IsTask ts q task → Contains task.effects f → Interferes f e
      → YieldsTo ts.links q p ⊎ YieldsTo ts.links p q → YieldsTo ts.links q c ⊎ YieldsTo ts.links c q
  yields_by_parent c p q child task e f spawned nobody is_c has_e is_q has_f i (inl yield) = inl (yield.0, yield.1, more spawned yield.2)
  yields_by_parent c p q child task e f spawned nobody is_c has_e is_q has_f i (inr yield) =
      ⊎_elim
      (λ (same : q ≡ p). inl (subst (λ (x : ℕ). YieldsTo ts.links x c) (sym same) (p, none, more spawned none)))
      (λ (low : (d : ℕ) × DescendsFrom ts.links q d × SpawnedBy ts.links d p).
      ⊎_elim
      (λ (same : low.0 ≡ c). inr (c, none, subst (λ (x : ℕ). DescendsFrom ts.links q x) same low.1))
      (λ (other : low.0 ≢ c).
      let up = ancestor_covers low.1 task f is_q has_f in
      let both = mutual_interference e up.2.0 (up.2.2 e (mutual_interference f e i)) in
      absurd (given.apart low.0 c p other low.2 spawned (up.0, child, up.1, is_c, some_interfere up.0.effects child.effects up.2.0 e up.2.1 has_e both)))
      (cases_eq low.0 c))
      (by_child ts.links (YieldsTo-alone nobody yield))

  -- a task that waits for nobody yields to no other task that is still to be admitted
  pub yields_to_none_made : (p u : ℕ) → WaitsForNobody ts.links p → TaskHasStatus ts u Made → YieldsTo ts.links p u → p ≡ u
  yields_to_none_made p u nobody made yield = sym (made_alone ts given made (YieldsTo-alone nobody yield))
