-- The tasks go on to meet the conditions when a turn changes and when a task is admitted.
use Rattle.std.proofs.Common.{◌≡◌, ◌≢◌, ℕ, IsTrue, List, None, refl, sym, subst, ◌∙◌, ◌⊎◌, inl, inr, ⊎_elim}
use Rattle.std.specs.Prelude.{Contains}
use Rattle.std.proofs.lemmas.Bool.{cases_eq}
use Rattle.effect_sets.specs.declared.effects.Effect.{Effect}
use Rattle.effect_sets.specs.Filled.{all_filled}
use Rattle.effect_sets.specs.Interference.{SomeInterfere}
use Rattle.wait_graph.specs.declared.tasks.Link.{Link}
use Rattle.wait_graph.specs.Link.{link_of}
use Rattle.wait_graph.specs.Waiting.{SpawnedBy, WaitsFor, WaitsForNobody}
use Rattle.floor_laws.specs.admission.admission_core.Tasks.{Task, Tasks, Made, Enabled, Faulted, IsTask, TaskHasStatus, TasksInterfere}
use Rattle.floor_laws.specs.admission.admission_core.Conditions.{MeetsConditions, TasksIsolated, HasRunBefore}
use Rattle.floor_laws.specs.admission.admission_core.Entries.{Becomes}
use Rattle.floor_laws.proofs.admission.admission_core.EffectLemmas.{mutual_interference, some_interfere, some_parts}
use Rattle.floor_laws.proofs.admission.admission_core.FamilyLemmas.{one_task}

made_faulted : Made ≡ Faulted → ⊥
made_faulted h = cc

enabled_made : Enabled ≡ Made → ⊥
enabled_made h = cc

pub mutual_tasks : (ts : Tasks) (s t : ℕ) → TasksInterfere ts s t → TasksInterfere ts t s
mutual_tasks ts s t i =
    let parts = some_parts i.0.effects i.1.effects i.4 in
    (i.1, i.0, i.3, i.2, some_interfere i.1.effects i.0.effects parts.1 parts.0 parts.3 parts.2 (mutual_interference parts.0 parts.1 parts.4))

-- the status stays, or the task is admitted
abbrev pub StatusStays : Task → Task → Type 0
StatusStays a b = (b.status ≡ a.status) ⊎ ((a.status ≡ Made) × (b.status ≡ Enabled))

module _ (ts after : Tasks) (t : ℕ) (old new : Task) (is : IsTask ts t old) (becomes : Becomes ts after t new) (links : after.links ≡ ts.links)
    (effects : new.effects ≡ old.effects) (made : new.made ≡ old.made) (status : StatusStays old new) where
  pub was : (u : ℕ) (b : Task) → IsTask after u b → (a : Task) × IsTask ts u a × (b.effects ≡ a.effects) × (b.made ≡ a.made) × StatusStays a b
  was u b is_b =
      ⊎_elim
      (λ (same : u ≡ t).
      let one = one_task after t new b becomes.own (subst (λ (x : ℕ). IsTask after x b) same is_b) in (
        old,
        subst (λ (x : ℕ). IsTask ts x old) (sym same) is,
        subst (λ (x : Task). x.effects ≡ old.effects) one effects,
        subst (λ (x : Task). x.made ≡ old.made) one made,
        subst (λ (x : Task). StatusStays old x) one status,
      ))
      (λ (other : u ≢ t). (b, sym (becomes.others u other) ∙ is_b, refl, refl, inl refl))
      (cases_eq u t)

  pub now : (u : ℕ) (a : Task) → IsTask ts u a → (b : Task) × IsTask after u b × (b.effects ≡ a.effects) × StatusStays a b
  now u a is_a =
      ⊎_elim
      (λ (same : u ≡ t).
      let one = one_task ts t old a is (subst (λ (x : ℕ). IsTask ts x a) same is_a) in (
        new,
        subst (λ (x : ℕ). IsTask after x new) (sym same) becomes.own,
        subst (λ (x : Task). new.effects ≡ x.effects) one effects,
        subst (λ (x : Task). StatusStays x new) one status,
      ))
      (λ (other : u ≢ t). (a, becomes.others u other ∙ is_a, refl, inl refl))
      (cases_eq u t)

  pub interfered : (c d : ℕ) → TasksInterfere after c d → TasksInterfere ts c d
  interfered c d i =
      let a = was c i.0 i.2 in
      let b = was d i.1 i.3 in (
        a.0,
        b.0,
        a.1,
        b.1,
        subst (λ (es : List Effect). SomeInterfere a.0.effects es) b.2 (subst (λ (es : List Effect). SomeInterfere es i.1.effects) a.2 i.4),
      )

  has_run : (u : ℕ) → HasRunBefore ts u → HasRunBefore after u
  has_run u (inl e) =
      let b = now u e.0 e.1 in
      ⊎_elim
      (λ (same : b.0.status ≡ e.0.status). inl (b.0, b.1, same ∙ e.2))
      (λ (up : (e.0.status ≡ Made) × (b.0.status ≡ Enabled)). inl (b.0, b.1, up.1))
      b.3
  has_run u (inr f) =
      let b = now u f.0 f.1 in
      ⊎_elim
      (λ (same : b.0.status ≡ f.0.status). inr (b.0, b.1, same ∙ f.2))
      (λ (up : (f.0.status ≡ Made) × (b.0.status ≡ Enabled)). absurd (made_faulted (sym up.0 ∙ f.2)))
      b.3

  pub was_made : (u : ℕ) → TaskHasStatus after u Made → TaskHasStatus ts u Made
  was_made u m =
      let a = was u m.0 m.1 in
      ⊎_elim
      (λ (same : m.0.status ≡ a.0.status). (a.0, a.1, sym same ∙ m.2))
      (λ (up : (a.0.status ≡ Made) × (m.0.status ≡ Enabled)). absurd (enabled_made (sym up.1 ∙ m.2)))
      a.4

  pub conditions_later : MeetsConditions ts → TasksIsolated after → MeetsConditions after
  conditions_later given isolated = record {
    isolated = isolated;
    filled = λ u b is_b. let a = was u b is_b in subst (λ (es : List Effect). IsTrue (all_filled es)) (sym a.2) (given.filled u a.0 a.1);
    inside = λ c p child parent is_c is_p spawned e has.
        let a = was c child is_c in
        let b = was p parent is_p in
        let d = given.inside c p a.0 b.0 a.1 b.1 (subst (λ (ls : List Link). SpawnedBy ls c p) links spawned) e (subst (λ (es : List Effect). Contains es e) a.2 has) in
        (d.0, subst (λ (es : List Effect). Contains es d.0) (sym b.2) d.1, d.2);
    apart = λ c d p other first second i.
        given.apart c d p other (subst (λ (ls : List Link). SpawnedBy ls c p) links first) (subst (λ (ls : List Link). SpawnedBy ls d p) links second) (interfered c d i);
    waiter = λ u v wait. has_run u (given.waiter u v (subst (λ (ls : List Link). WaitsFor ls u v) links wait));
    parent = λ c p spawned. has_run p (given.parent c p (subst (λ (ls : List Link). SpawnedBy ls c p) links spawned));
    alone = λ u m. subst (λ (ls : List Link). (link_of ls u).parent ≡ None) (sym links) (given.alone u (was_made u m));
    maker = λ u c task is_u makes.
        let a = was u task is_u in
        subst (λ (ls : List Link). WaitsForNobody ls u) (sym links) (given.maker u c a.0 a.1 (sym a.3 ∙ makes));
  }
