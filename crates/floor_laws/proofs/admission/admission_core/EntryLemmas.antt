-- Each entry of the machine and each step on a turn keeps the invariant.
use Rattle.std.proofs.Common.{◌≡◌, ◌≢◌, ℕ, true, false, List, Some, refl, sym, ap, subst, ◌∙◌, ◌⊎◌, inl, inr, ⊎_elim}
use Rattle.std.proofs.lemmas.Bool.{cases_eq, cases_Bool, false≢true}
use Rattle.region_paths.specs.declared.elements.Elem.{Elem}
use Rattle.prefix_tree.specs.Nodes.{IsTreeOfPaths}
use Rattle.wait_graph.specs.declared.tasks.Link.{Link}
use Rattle.wait_graph.specs.Waiting.{SpawnedBy, YieldsTo}
use Rattle.floor_laws.specs.admission.admission_core.Tasks.{Task, Tasks, Made, Enabled, Free, Taken, New, IsLiveStatus, IsTask, TaskHasStatus, TasksInterfere}
use Rattle.floor_laws.specs.admission.admission_core.Conditions.{TasksIsolated}
use Rattle.floor_laws.specs.admission.admission_core.States.{Activity, State}
use Rattle.floor_laws.specs.admission.admission_core.Entries.{Becomes, AllStand, TakesTurn, GivesTurnEvent, GivesFirst, Admits}
use Rattle.floor_laws.specs.admission.admission_core.Rule.{IsBorn}
use Rattle.floor_laws.proofs.admission.admission_core.Invariant.{Kept}
use Rattle.floor_laws.proofs.admission.admission_core.FamilyLemmas.{one_task}
use Rattle.floor_laws.proofs.admission.admission_core.PutLemmas.{not_some}
use Rattle.floor_laws.proofs.admission.admission_core.ConditionLemmas.{StatusStays, mutual_tasks, was, now, interfered, conditions_later}
use Rattle.floor_laws.proofs.admission.admission_core.TaskLemmas.{Later, change_keeps}
use Rattle.floor_laws.proofs.admission.admission_core.AdmissionLemmas.{may_be_admitted}

free_taken : {v : ℕ} → Free ≡ Taken v → ⊥
free_taken h = cc

free_new : {v : ℕ} → Free ≡ New v → ⊥
free_new h = cc

new_taken : {v w : ℕ} → New v ≡ Taken w → ⊥
new_taken h = cc

taken_one : {v w : ℕ} → Taken v ≡ Taken w → v ≡ w
taken_one h = cc

made_enabled : Made ≡ Enabled → ⊥
made_enabled h = cc

-- a status that stays, or an admission, brings nobody back to life
live_before : (a b : Task) → StatusStays a b → IsLiveStatus b.status → IsLiveStatus a.status
live_before a b (inl same) live = subst IsLiveStatus same live
live_before a b (inr up) live = subst IsLiveStatus (sym up.0) tt

module _ (nodes : List (List Elem)) (s : State) (kept : Kept nodes s) (after : Tasks) (t : ℕ) (old new : Task) (is : IsTask s.tasks t old)
    (becomes : Becomes s.tasks after t new) (links : after.links ≡ s.tasks.links) (effects : new.effects ≡ old.effects) (made : new.made ≡ old.made) (status : StatusStays old new) where
  later : Later s.tasks after
  later = record {
    kept = λ u a is_a. let b = now s.tasks after t old new is becomes links effects made status u a is_a in (b.0, b.1, b.2);
    live = λ u a is_a live.
        let b = was s.tasks after t old new is becomes links effects made status u live.0 live.1 in
        (b.0, b.1, live_before b.0 live.0 b.4 live.2);
    yields = λ q u a b is_a is_b q_live u_live yield. subst (λ (ls : List Link). YieldsTo ls q u) (sym links) yield;
  }

  turn_keeps : TasksIsolated after
      → ((v : ℕ) (b : Activity) → s.activities v ≡ Some b → old.status ≡ Made → old.turn ≡ Taken v → ⊥)
      → (new.status ≡ Enabled → new.unplaced ≡ false → AllStand nodes s.records t old)
      → (new.unplaced ≡ true → ⊥)
      → ((c : ℕ) (child : Task) → IsTask s.tasks c child → child.unplaced ≡ true → (born : IsBorn s.tasks c child) → born.maker ≡ t → ⊥)
      → Kept nodes (record s { tasks = after })
  turn_keeps isolated none stand placed childless =
      change_keeps nodes s kept after later t old new is becomes effects
      (conditions_later s.tasks after t old new is becomes links effects made status kept.given isolated)
      none stand placed childless
      (λ c p child is_c enabled spawned. subst (λ (ls : List Link). SpawnedBy ls c p) (sym links) spawned)

  same_isolated : new.status ≡ old.status → TasksIsolated after
  same_isolated same q u other q_enabled u_enabled i =
      subst (λ (ls : List Link). YieldsTo ls q u ⊎ YieldsTo ls u q) (sym links)
      (kept.given.isolated q u other (enabled_before q q_enabled) (enabled_before u u_enabled) (interfered s.tasks after t old new is becomes links effects made status q u i))
    where
      enabled_before : (x : ℕ) → TaskHasStatus after x Enabled → TaskHasStatus s.tasks x Enabled
      enabled_before x h =
          ⊎_elim
          (λ (here : x ≡ t).
          let one = one_task after t new h.0 becomes.own (subst (λ (y : ℕ). IsTask after y h.0) here h.1) in
          (old, subst (λ (y : ℕ). IsTask s.tasks y old) (sym here) is, sym same ∙ ap (λ (y : Task). y.status) one ∙ h.2))
          (λ (there : x ≢ t). (h.0, sym (becomes.others x there) ∙ h.1, h.2))
          (cases_eq x t)

  -- the born child's parent is this task
  parent_is : (c : ℕ) (child : Task) (born : IsBorn s.tasks c child) → born.maker ≡ t → born.parent ≡ old
  parent_is c child born same = one_task s.tasks t born.parent old (subst (λ (x : ℕ). IsTask s.tasks x born.parent) same born.is) is

module _ (nodes : List (List Elem)) (tree : IsTreeOfPaths nodes) (s : State) (kept : Kept nodes s) (after : Tasks) where
  pub take_keeps : (w t : ℕ) (task : Task) → TakesTurn s.tasks after w t task → Kept nodes (record s { tasks = after })
  take_keeps w t task h =
      turn_keeps nodes s kept after t task (record task { turn = Taken w }) h.is h.becomes h.links refl refl (inl refl)
      (same_isolated nodes s kept after t task (record task { turn = Taken w }) h.is h.becomes h.links refl refl (inl refl) refl)
      (λ v b active made taken. free_taken (sym h.free ∙ taken))
      (λ enabled at_rest. kept.full t task h.is enabled at_rest)
      (λ unplaced. free_new (sym h.free ∙ (kept.born t task h.is unplaced).turns.0))
      (λ c child is_c unplaced born same.
      let one = parent_is nodes s kept after t task (record task { turn = Taken w }) h.is h.becomes h.links refl refl (inl refl) c child born same in
      free_taken (sym h.free ∙ sym (ap (λ (x : Task). x.turn) one) ∙ born.turns.1))

  pub give_keeps : (w t : ℕ) (task : Task) → GivesTurnEvent s.activities s.tasks after w t task → Kept nodes (record s { tasks = after })
  give_keeps w t task h =
      turn_keeps nodes s kept after t task (record task { turn = Free }) h.is h.becomes h.links refl refl (inl refl)
      (same_isolated nodes s kept after t task (record task { turn = Free }) h.is h.becomes h.links refl refl (inl refl) refl)
      (λ v b active made taken. not_some (sym h.idle ∙ ap s.activities (taken_one (sym h.taken ∙ taken)) ∙ active))
      (λ enabled at_rest. kept.full t task h.is enabled at_rest)
      (λ unplaced. new_taken (sym (kept.born t task h.is unplaced).turns.0 ∙ h.taken))
      (λ c child is_c unplaced born same.
      false≢true (sym (h.children c child (subst (λ (x : ℕ). SpawnedBy s.tasks.links c x) same born.spawned) is_c) ∙ unplaced))

  pub first_keeps : (w t : ℕ) (task : Task) → GivesFirst nodes s.records s.tasks after w t task → Kept nodes (record s { tasks = after })
  first_keeps w t task h =
      turn_keeps nodes s kept after t task (record task { turn = Free; unplaced = false }) h.is h.becomes h.links refl refl (inl refl)
      (same_isolated nodes s kept after t task (record task { turn = Free; unplaced = false }) h.is h.becomes h.links refl refl (inl refl) refl)
      (λ v b active made taken. new_taken (sym h.new ∙ taken))
      (λ enabled at_rest.
      ⊎_elim
      (λ (unplaced : task.unplaced ≡ true). h.placed unplaced)
      (λ (placed : task.unplaced ≡ false). kept.full t task h.is enabled placed)
      (cases_Bool task.unplaced))
      (λ unplaced. false≢true unplaced)
      (λ c child is_c unplaced born same.
      let one = parent_is nodes s kept after t task (record task { turn = Free; unplaced = false }) h.is h.becomes h.links refl refl (inl refl) c child born same in
      new_taken (sym h.new ∙ sym (ap (λ (x : Task). x.turn) one) ∙ born.turns.1))

  admit_isolated : (w t : ℕ) (task : Task) → Admits nodes s after w t task → TasksIsolated after
  admit_isolated w t task h q u other q_enabled u_enabled i =
      let new : Task = record task { status = Enabled } in
      let i_before = interfered s.tasks after t task new h.is h.becomes h.links refl refl (inr (h.made, refl)) q u i in
      let others = may_be_admitted nodes tree s kept t task h.is h.made h.records in
      subst (λ (ls : List Link). YieldsTo ls q u ⊎ YieldsTo ls u q) (sym h.links)
      (⊎_elim
      (λ (q_is : q ≡ t).
      let apart : u ≢ t = λ same. other (q_is ∙ sym same) in
      inr (subst (λ (x : ℕ). YieldsTo s.tasks.links u x) (sym q_is)
      (others u apart (u_enabled.0, sym (h.becomes.others u apart) ∙ u_enabled.1, u_enabled.2)
      (subst (λ (x : ℕ). TasksInterfere s.tasks u x) q_is (mutual_tasks s.tasks q u i_before)))))
      (λ (apart : q ≢ t).
      let q_before : TaskHasStatus s.tasks q Enabled = (q_enabled.0, sym (h.becomes.others q apart) ∙ q_enabled.1, q_enabled.2) in
      ⊎_elim
      (λ (u_is : u ≡ t).
      inl (subst (λ (x : ℕ). YieldsTo s.tasks.links q x) (sym u_is) (others q apart q_before (subst (λ (x : ℕ). TasksInterfere s.tasks q x) u_is i_before))))
      (λ (u_apart : u ≢ t).
      kept.given.isolated q u other q_before (u_enabled.0, sym (h.becomes.others u u_apart) ∙ u_enabled.1, u_enabled.2) i_before)
      (cases_eq u t))
      (cases_eq q t))

  pub admit_keeps : (w t : ℕ) (task : Task) → Admits nodes s after w t task → Kept nodes (record s { tasks = after })
  admit_keeps w t task h =
      turn_keeps nodes s kept after t task (record task { status = Enabled }) h.is h.becomes h.links refl refl (inr (h.made, refl))
      (admit_isolated w t task h)
      (λ v b active made taken. not_some (sym h.idle ∙ ap s.activities (taken_one (sym h.turn ∙ taken)) ∙ active))
      (λ enabled at_rest. h.records)
      (λ unplaced. made_enabled (sym h.made ∙ (kept.born t task h.is unplaced).enabled))
      (λ c child is_c unplaced born same.
      let one = parent_is nodes s kept after t task (record task { status = Enabled }) h.is h.becomes h.links refl refl (inr (h.made, refl)) c child born same in
      made_enabled (sym h.made ∙ sym (ap (λ (x : Task). x.status) one) ∙ born.active))
