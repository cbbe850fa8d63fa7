-- A task all of whose records stand may be admitted: each enabled task that interferes with it has records too, or its
-- parent has some in their place.
use Rattle.std.proofs.Common.{◌≡◌, ◌≢◌, ℕ, true, false, List, sym, subst, ◌⊎◌, inl, inr, ⊎_elim}
use Rattle.std.proofs.lemmas.Bool.{cases_Bool}
use Rattle.region_paths.specs.declared.elements.Elem.{Elem}
use Rattle.effect_sets.specs.declared.effects.Effect.{Effect}
use Rattle.effect_sets.specs.Interference.{Interferes}
use Rattle.prefix_tree.specs.Nodes.{IsTreeOfPaths}
use Rattle.wait_graph.specs.Waiting.{WaitsForNobody, YieldsTo}
use Rattle.wait_graph.proofs.ChainLemmas.{Chain-arrives}
use Rattle.wait_graph.proofs.WaitingLemmas.{YieldsTo-alone}
use Rattle.floor_laws.specs.admission.admission_core.Tasks.{Task, Tasks, Made, Enabled, IsLiveStatus, IsTask, TaskHasStatus, IsLive}
use Rattle.floor_laws.specs.admission.admission_core.Conditions.{MeetsConditions}
use Rattle.floor_laws.specs.admission.admission_core.States.{State}
use Rattle.floor_laws.specs.admission.admission_core.Entries.{AllStand}
use Rattle.floor_laws.specs.admission.admission_core.Rule.{OthersYieldTo}
use Rattle.floor_laws.proofs.admission.admission_core.Invariant.{Kept}
use Rattle.floor_laws.proofs.admission.admission_core.EffectLemmas.{mutual_interference, some_parts}
use Rattle.floor_laws.proofs.admission.admission_core.FamilyLemmas.{one_task, made_not_enabled, made_not_run, yields_to_none_made}
use Rattle.floor_laws.proofs.admission.admission_core.ChildLemmas.{enabled_live, parent_stands}
use Rattle.std.specs.Prelude.{Contains}

-- a task that is still to be admitted yields to nobody but itself
pub made_yields : (ts : Tasks) → MeetsConditions ts → (t u : ℕ) → TaskHasStatus ts t Made → YieldsTo ts.links t u → u ≡ t
made_yields ts given t u made yield =
    let nobody : WaitsForNobody ts.links t = λ x wait. made_not_run ts t made (given.waiter t x wait) in
    Chain-arrives (λ x spawned. made_not_run ts t made (given.parent x t spawned)) (YieldsTo-alone nobody yield)

module _ (nodes : List (List Elem)) (tree : IsTreeOfPaths nodes) (s : State) (kept : Kept nodes s) (t : ℕ) (task : Task)
    (is : IsTask s.tasks t task) (made : task.status ≡ Made) (records : AllStand nodes s.records t task) where
  live : IsLive s.tasks t
  live = (task, is, subst IsLiveStatus (sym made) tt)

  by_records : (q : ℕ) (other : Task) (e f : Effect) → q ≢ t → IsTask s.tasks q other → other.status ≡ Enabled → Contains other.effects e
      → Contains task.effects f → Interferes e f → (other.unplaced ≡ true) ⊎ (other.unplaced ≡ false) → YieldsTo s.tasks.links q t
  by_records q other e f apart is_q enabled has_e has_f i (inl unplaced) =
      let up = parent_stands nodes tree s kept q other e is_q unplaced has_e in
      let own = records f has_f in
      let yields = kept.pairs (record { task = up.born.maker; effect = up.effect; node = up.node }) (record { task = t; effect = f; node = own.0 }) up.stands own.2 up.live live (mutual_interference f up.effect (up.covers f (mutual_interference e f i))) in
      let same : up.born.maker ≡ t =
      ⊎_elim
      (λ (first : YieldsTo s.tasks.links up.born.maker t). yields_to_none_made s.tasks kept.given up.born.maker t up.nobody (task, is, made) first)
      (λ (second : YieldsTo s.tasks.links t up.born.maker). made_yields s.tasks kept.given t up.born.maker (task, is, made) second)
      yields in
      absurd (made_not_enabled s.tasks t (task, is, made) (up.born.parent, subst (λ (x : ℕ). IsTask s.tasks x up.born.parent) same up.born.is, up.born.active))
  by_records q other e f apart is_q enabled has_e has_f i (inr placed) =
      let stands = kept.full q other is_q enabled placed e has_e in
      let own = records f has_f in
      ⊎_elim
      (λ (first : YieldsTo s.tasks.links q t). first)
      (λ (second : YieldsTo s.tasks.links t q). absurd (apart (made_yields s.tasks kept.given t q (task, is, made) second)))
      (kept.pairs (record { task = q; effect = e; node = stands.0 }) (record { task = t; effect = f; node = own.0 }) stands.2 own.2 (enabled_live s.tasks q other is_q enabled) live i)

  pub may_be_admitted : OthersYieldTo s.tasks t
  may_be_admitted q apart enabled i =
      let first = one_task s.tasks q i.0 enabled.0 i.2 enabled.1 in
      let second = one_task s.tasks t i.1 task i.3 is in
      let parts = some_parts i.0.effects i.1.effects i.4 in
      by_records q enabled.0 parts.0 parts.1 apart enabled.1 enabled.2
      (subst (λ (x : Task). Contains x.effects parts.0) first parts.2)
      (subst (λ (x : Task). Contains x.effects parts.1) second parts.3)
      parts.4
      (cases_Bool enabled.0.unplaced)
