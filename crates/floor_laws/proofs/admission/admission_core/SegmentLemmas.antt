-- Each segment of a task keeps the invariant, however it ends.
use Rattle.std.proofs.Common.{◌≡◌, ◌≢◌, ℕ, Bool, true, false, List, length, length-set, Option, Some, None, refl, sym, ap, subst, ◌∙◌, ◌⊎◌, inl, inr, ⊎_elim}
use Rattle.std.proofs.lemmas.Bool.{cases_eq, false≢true}
use Rattle.region_paths.specs.declared.elements.Elem.{Elem}
use Rattle.effect_sets.specs.declared.effects.Effect.{Effect}
use Rattle.wait_graph.specs.declared.tasks.Link.{Link}
use Rattle.wait_graph.specs.Link.{link_of, with_wait, with_joined}
use Rattle.wait_graph.specs.Waiting.{SpawnedBy, YieldsTo}
use Rattle.wait_graph.proofs.AddingLemmas.{SpawnedBy-added}
use Rattle.floor_laws.specs.admission.admission_core.Tasks.{Task, Tasks, Status, Made, Enabled, IsTask, IsLive}
use Rattle.floor_laws.specs.admission.admission_core.States.{Purpose, Admit, Child, Remove, State}
use Rattle.floor_laws.specs.admission.admission_core.Events.{MayBegin}
use Rattle.floor_laws.specs.admission.admission_core.Entries.{AllStand, links_joined, Runs, new_task, parent_if, MakesEvent}
use Rattle.floor_laws.specs.admission.admission_core.Rule.{IsBorn, EnabledStand, UnplacedAreBorn}
use Rattle.floor_laws.proofs.admission.admission_core.Invariant.{Kept}
use Rattle.floor_laws.proofs.admission.admission_core.FamilyLemmas.{one_task, made_not_enabled}
use Rattle.floor_laws.proofs.admission.admission_core.ChildLemmas.{enabled_live}
use Rattle.floor_laws.proofs.admission.admission_core.PutLemmas.{not_some}
use Rattle.floor_laws.proofs.admission.admission_core.LinkLemmas.{segment_yields, segment_spawned, ended_spawned, ended_yields, added_yields, added_spawned}
use Rattle.floor_laws.proofs.admission.admission_core.TaskLemmas.{Later, tasks_keep, change_keeps}

made_enabled : Made ≡ Enabled → ⊥
made_enabled h = cc

module _ (nodes : List (List Elem)) (s : State) (kept : Kept nodes s) (after : Tasks) (w t : ℕ) (task : Task) where
  module _ (joins waits : Option ℕ) (status : Status) (h : Runs s.tasks after w t task joins waits status) where
    abbrev mid : List Link
    mid = with_wait (links_joined s.tasks.links joins) t waits

    abbrev new : Task
    new = record task { status = status; made = None }

    run_live : (u : ℕ) (a : Task) → IsTask s.tasks u a → IsLive after u → IsLive s.tasks u
    run_live u a is_a live =
        ⊎_elim
        (λ (same : u ≡ t). enabled_live s.tasks u task (subst (λ (x : ℕ). IsTask s.tasks x task) (sym same) h.may.is) h.may.enabled)
        (λ (other : u ≢ t). (live.0, sym (h.becomes.others u other) ∙ live.1, live.2))
        (cases_eq u t)

    run_later : Later s.tasks after
    run_later = record {
      kept = λ u a is_a.
          ⊎_elim
          (λ (same : u ≡ t).
          let one = one_task s.tasks t task a h.may.is (subst (λ (x : ℕ). IsTask s.tasks x a) same is_a) in
          (new, subst (λ (x : ℕ). IsTask after x new) (sym same) h.becomes.own, ap (λ (x : Task). x.effects) one))
          (λ (other : u ≢ t). (a, h.becomes.others u other ∙ is_a, refl))
          (cases_eq u t);
      live = run_live;
      yields = λ q u a b is_a is_b q_live u_live yield.
          let first = segment_yields s.tasks kept.given t h.may.ready joins waits h.joined q u (run_live u b is_b u_live) yield in
          subst (λ (ls : List Link). YieldsTo ls q u) (sym h.links)
          (ended_yields s.tasks kept.given t h.may.ready joins waits h.joined status after h.conditions h.links (new, h.becomes.own, refl) h.last q u u_live first);
    }

    pub run_keeps : Kept nodes (record s { tasks = after })
    run_keeps =
        change_keeps nodes s kept after run_later t task new h.may.is h.becomes refl h.conditions
        (λ v b active made taken. made_enabled (sym made ∙ h.may.enabled))
        (λ enabled at_rest. kept.full t task h.may.is h.may.enabled at_rest)
        (λ unplaced. false≢true (sym h.may.placed ∙ unplaced))
        (λ c child is_c unplaced born same.
        false≢true (sym (h.may.children c child (subst (λ (x : ℕ). SpawnedBy s.tasks.links c x) same born.spawned) is_c) ∙ unplaced))
        (λ c p child is_c enabled spawned.
        subst (λ (ls : List Link). SpawnedBy ls c p) (sym h.links)
        (ended_spawned s.tasks kept.given t h.may.ready joins waits h.joined status c p
        (segment_spawned s.tasks kept.given t h.may.ready joins waits h.joined c p (enabled_live s.tasks c child is_c enabled) spawned)))

  module _ (c : ℕ) (joins waits : Option ℕ) (effects : List Effect) (spawned : Bool) (h : MakesEvent s.tasks after w t c task joins waits effects spawned) where
    abbrev base : List Link
    base = with_wait (links_joined s.tasks.links joins) t waits

    abbrev maker_task : Task
    maker_task = record task { made = Some c }

    not_child : (u : ℕ) (a : Task) → IsTask s.tasks u a → u ≢ c
    not_child u a is_a same = not_some (sym h.fresh ∙ subst (λ (x : ℕ). IsTask s.tasks x a) same is_a)

    stays : (u : ℕ) (a : Task) → u ≢ t → IsTask s.tasks u a → IsTask after u a
    stays u a other is_a = h.others u other (not_child u a is_a) ∙ is_a

    -- a task after it is the maker, the child, or was there before
    came_from : (u : ℕ) (b : Task) → IsTask after u b → ((u ≡ t) × (maker_task ≡ b)) ⊎ (((u ≡ c) × (new_task w effects spawned ≡ b)) ⊎ ((u ≢ t) × IsTask s.tasks u b))
    came_from u b is_b =
        ⊎_elim
        (λ (same : u ≡ t). inl (same, one_task after t maker_task b h.maker (subst (λ (x : ℕ). IsTask after x b) same is_b)))
        (λ (other : u ≢ t).
        inr
        (⊎_elim
        (λ (same : u ≡ c). inl (same, one_task after c (new_task w effects spawned) b h.child (subst (λ (x : ℕ). IsTask after x b) same is_b)))
        (λ (apart : u ≢ c). inr (other, sym (h.others u other apart) ∙ is_b))
        (cases_eq u c)))
        (cases_eq u t)

    make_live : (u : ℕ) (a : Task) → IsTask s.tasks u a → IsLive after u → IsLive s.tasks u
    make_live u a is_a live =
        ⊎_elim
        (λ (same : u ≡ t). enabled_live s.tasks u task (subst (λ (x : ℕ). IsTask s.tasks x task) (sym same) h.may.is) h.may.enabled)
        (λ (other : u ≢ t). (live.0, sym (h.others u other (not_child u a is_a)) ∙ live.1, live.2))
        (cases_eq u t)

    make_later : Later s.tasks after
    make_later = record {
      kept = λ u a is_a.
          ⊎_elim
          (λ (same : u ≡ t).
          let one = one_task s.tasks t task a h.may.is (subst (λ (x : ℕ). IsTask s.tasks x a) same is_a) in
          (maker_task, subst (λ (x : ℕ). IsTask after x maker_task) (sym same) h.maker, ap (λ (x : Task). x.effects) one))
          (λ (other : u ≢ t). (a, stays u a other is_a, refl))
          (cases_eq u t);
      live = make_live;
      yields = λ q u a b is_a is_b q_live u_live yield.
          let first = segment_yields s.tasks kept.given t h.may.ready joins waits h.joined q u (make_live u b is_b u_live) yield in
          subst (λ (ls : List Link). YieldsTo ls q u) (sym h.links) (added_yields base (parent_if spawned t) q u first);
    }

    make_mine : (v : ℕ) (purpose : Purpose) → MayBegin s.tasks v purpose → MayBegin after v purpose
    make_mine v (Admit u e) may =
        let other : u ≢ t = λ same. made_not_enabled s.tasks t (may.0, subst (λ (x : ℕ). IsTask s.tasks x may.0) same may.1, may.2) (task, h.may.is, h.may.enabled) in
        (may.0, stays u may.0 other may.1, may.2, may.3, may.4)
    make_mine v (Child u e) may = tt
    make_mine v (Remove u e) may = tt

    -- the child isn't enabled and placed
    child_unplaced : (x : Bool) → (new_task w effects x).status ≡ Enabled → (new_task w effects x).unplaced ≡ false → ⊥
    child_unplaced true enabled at_rest = false≢true (sym at_rest)
    child_unplaced false enabled at_rest = made_enabled enabled

    base_length : (joined : Option ℕ) → length (with_wait (links_joined s.tasks.links joined) t waits) ≡ length s.tasks.links
    base_length None = length-set s.tasks.links t (record (link_of s.tasks.links t) { waits = waits })
    base_length (Some d) =
        length-set (with_joined s.tasks.links d) t (record (link_of (with_joined s.tasks.links d) t) { waits = waits })
        ∙ length-set s.tasks.links d (record (link_of s.tasks.links d) { joined = true })

    child_of : parent_if spawned t ≡ Some t → SpawnedBy after.links c t
    child_of parent =
        subst (λ (ls : List Link). SpawnedBy ls c t) (sym h.links)
        ((SpawnedBy-added base (parent_if spawned t) c t).1 (inr (h.number ∙ sym (base_length joins), parent)))

    born_child : (x : Bool) → spawned ≡ x → (new_task w effects spawned).unplaced ≡ true → IsBorn after c (new_task w effects spawned)
    born_child true is unplaced = record {
      enabled = ap (λ (x : Bool). (new_task w effects x).status) is;
      maker = t;
      parent = maker_task;
      spawned = child_of (ap (λ (x : Bool). parent_if x t) is);
      is = h.maker;
      active = h.may.enabled;
      placed = h.may.placed;
      made = refl;
      worker = w;
      turns = (refl, h.may.turn);
    }
    born_child false is unplaced = absurd (false≢true (sym is ∙ unplaced))

    make_born : UnplacedAreBorn after
    make_born u child is_u unplaced =
        ⊎_elim
        (λ (same : (u ≡ t) × (maker_task ≡ child)). absurd (false≢true (sym h.may.placed ∙ ap (λ (x : Task). x.unplaced) same.1 ∙ unplaced)))
        (λ (rest : ((u ≡ c) × (new_task w effects spawned ≡ child)) ⊎ ((u ≢ t) × IsTask s.tasks u child)).
        ⊎_elim
        (λ (own : (u ≡ c) × (new_task w effects spawned ≡ child)).
        subst (λ (x : ℕ). IsBorn after x child) (sym own.0)
        (subst (λ (x : Task). IsBorn after c x) own.1 (born_child spawned refl (ap (λ (x : Task). x.unplaced) own.1 ∙ unplaced))))
        (λ (old : (u ≢ t) × IsTask s.tasks u child).
        let born = kept.born u child old.1 unplaced in
        let other : born.maker ≢ t = λ same. false≢true (sym (h.may.children u child (subst (λ (x : ℕ). SpawnedBy s.tasks.links u x) same born.spawned) old.1) ∙ unplaced) in
        record {
          enabled = born.enabled;
          maker = born.maker;
          parent = born.parent;
          spawned =
              subst (λ (ls : List Link). SpawnedBy ls u born.maker) (sym h.links)
              (added_spawned base (parent_if spawned t) u born.maker
              (segment_spawned s.tasks kept.given t h.may.ready joins waits h.joined u born.maker (enabled_live s.tasks u child old.1 born.enabled) born.spawned));
          is = stays born.maker born.parent other born.is;
          active = born.active;
          placed = born.placed;
          made = born.made;
          worker = born.worker;
          turns = born.turns;
        })
        rest)
        (came_from u child is_u)

    make_full : EnabledStand nodes (record s { tasks = after })
    make_full u b is_u enabled at_rest =
        ⊎_elim
        (λ (same : (u ≡ t) × (maker_task ≡ b)).
        let stands = kept.full t task h.may.is h.may.enabled h.may.placed in
        subst (λ (x : ℕ). AllStand nodes s.records x b) (sym same.0) (subst (λ (x : Task). AllStand nodes s.records t x) same.1 stands))
        (λ (rest : ((u ≡ c) × (new_task w effects spawned ≡ b)) ⊎ ((u ≢ t) × IsTask s.tasks u b)).
        ⊎_elim
        (λ (own : (u ≡ c) × (new_task w effects spawned ≡ b)).
        absurd (child_unplaced spawned (ap (λ (x : Task). x.status) own.1 ∙ enabled) (ap (λ (x : Task). x.unplaced) own.1 ∙ at_rest)))
        (λ (old : (u ≢ t) × IsTask s.tasks u b). kept.full u b old.1 enabled at_rest)
        rest)
        (came_from u b is_u)

    pub make_keeps : Kept nodes (record s { tasks = after })
    make_keeps = tasks_keep nodes s kept after make_later h.conditions (λ v b active purpose may. make_mine v purpose may) make_full make_born
