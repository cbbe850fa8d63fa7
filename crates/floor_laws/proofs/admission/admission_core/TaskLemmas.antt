-- When the invariant stays while the tasks change.
use Rattle.std.proofs.Common.{◌≡◌, ◌≢◌, ℕ, true, false, List, Some, sym, ap, subst, ◌∙◌, ◌⊎◌, inl, inr, ⊎_elim}
use Rattle.std.specs.Prelude.{Contains}
use Rattle.std.proofs.lemmas.Bool.{cases_eq}
use Rattle.region_paths.specs.declared.elements.Elem.{Elem}
use Rattle.effect_sets.specs.declared.effects.Effect.{Effect}
use Rattle.wait_graph.specs.Waiting.{SpawnedBy, YieldsTo}
use Rattle.floor_laws.specs.admission.admission_core.Tasks.{Task, Tasks, Made, Enabled, Taken, IsLiveStatus, IsTask, IsLive}
use Rattle.floor_laws.specs.admission.admission_core.Conditions.{MeetsConditions}
use Rattle.floor_laws.specs.admission.admission_core.States.{IsAmong, Record, Purpose, Admit, Child, Remove, Stage, Activity, State, PassesFor}
use Rattle.floor_laws.specs.admission.admission_core.Events.{MayBegin}
use Rattle.floor_laws.specs.admission.admission_core.Entries.{Becomes, AllStand}
use Rattle.floor_laws.specs.admission.admission_core.Rule.{IsBorn, EnabledStand, UnplacedAreBorn}
use Rattle.floor_laws.proofs.admission.admission_core.Invariant.{IsMine, Kept}
use Rattle.floor_laws.proofs.admission.admission_core.StageLemmas.{past_mine}
use Rattle.floor_laws.specs.admission.admission_core.States.{Descends, Steps, Walks, Leaves}
use Rattle.floor_laws.proofs.admission.admission_core.FamilyLemmas.{one_task}

-- what an entry leaves as it is: tasks keep their effects, none comes to life again, and between live tasks no yielding
-- ends
pub record Later (before after : Tasks) : Type 0 where
  pub kept : (t : ℕ) (a : Task) → IsTask before t a → (b : Task) × IsTask after t b × (b.effects ≡ a.effects)
  pub live : (t : ℕ) (a : Task) → IsTask before t a → IsLive after t → IsLive before t
  pub yields : (q t : ℕ) (a b : Task) → IsTask before q a → IsTask before t b → IsLive after q → IsLive after t → YieldsTo before.links q t → YieldsTo after.links q t

module _ (nodes : List (List Elem)) (s : State) (kept : Kept nodes s) (after : Tasks) (later : Later s.tasks after) where
  mine_later : (v : ℕ) (purpose : Purpose) (stage : Stage) → (MayBegin s.tasks v purpose → MayBegin after v purpose) → IsMine s.tasks v purpose stage → IsMine after v purpose stage
  mine_later v purpose (Descends n) f mine = f mine
  mine_later v purpose (Steps n c) f mine = f mine
  mine_later v purpose (Walks stack done) f mine = f mine
  mine_later v purpose (Leaves ns) f mine = tt

  passes_later : (v : ℕ) (purpose : Purpose) (r : Record) → IsAmong r s.records → MayBegin s.tasks v purpose → MayBegin after v purpose → PassesFor s.tasks purpose r → PassesFor after purpose r
  passes_later v (Admit t e) r among was now pass = λ live i.
      let home = (kept.home r among).task in
      later.yields r.task t home.0 was.0 home.1 was.1 live (now.0, now.1, subst IsLiveStatus (sym now.2) tt) (pass (later.live r.task home.0 home.1 live) i)
  passes_later v (Child t e) r among was now pass = tt
  passes_later v (Remove t e) r among was now pass = tt

  pub tasks_keep : MeetsConditions after
      → ((v : ℕ) (b : Activity) → s.activities v ≡ Some b → (purpose : Purpose) → MayBegin s.tasks v purpose → MayBegin after v purpose)
      → EnabledStand nodes (record s { tasks = after }) → UnplacedAreBorn after → Kept nodes (record s { tasks = after })
  tasks_keep given mine full born = record {
    given = given;
    home = λ r among.
        let home = kept.home r among in
        let new = later.kept r.task home.task.0 home.task.1 in
        record { task = (new.0, new.1, subst (λ (es : List Effect). Contains es r.effect) (sym new.2) home.task.2); place = home.place };
    pairs = λ p q p_among q_among p_live q_live i.
        let p_home = (kept.home p p_among).task in
        let q_home = (kept.home q q_among).task in
        ⊎_elim
        (λ (yield : YieldsTo s.tasks.links p.task q.task). inl (later.yields p.task q.task p_home.0 q_home.0 p_home.1 q_home.1 p_live q_live yield))
        (λ (yield : YieldsTo s.tasks.links q.task p.task). inr (later.yields q.task p.task q_home.0 p_home.0 q_home.1 p_home.1 q_live p_live yield))
        (kept.pairs p q p_among q_among (later.live p.task p_home.0 p_home.1 p_live) (later.live q.task q_home.0 q_home.1 q_live) i);
    full = full;
    born = born;
    owner = kept.owner;
    going = λ v b is.
        let g = kept.going v b is in
        record {
          place = g.place;
          way = g.way;
          mine = mine_later v b.purpose b.stage (mine v b is b.purpose) g.mine;
          seen = λ r among past.
              let may = past_mine nodes s.tasks v b.purpose b.stage r.node g.mine past in
              passes_later v b.purpose r among may (mine v b is b.purpose may) (g.seen r among past);
          rim = g.rim;
        };
    shut = kept.shut;
  }

  -- one task changes
  module _ (t : ℕ) (old new : Task) (is : IsTask s.tasks t old) (becomes : Becomes s.tasks after t new) (effects : new.effects ≡ old.effects) where
    pub back : (u : ℕ) (b : Task) → IsTask after u b → ((u ≡ t) × (new ≡ b)) ⊎ ((u ≢ t) × IsTask s.tasks u b)
    back u b is_b =
        ⊎_elim
        (λ same. inl (same, one_task after t new b becomes.own (subst (λ (x : ℕ). IsTask after x b) same is_b)))
        (λ other. inr (other, sym (becomes.others u other) ∙ is_b))
        (cases_eq u t)

    mine_kept : ((v : ℕ) (b : Activity) → s.activities v ≡ Some b → old.status ≡ Made → old.turn ≡ Taken v → ⊥)
        → (v : ℕ) (b : Activity) → s.activities v ≡ Some b → (purpose : Purpose) → MayBegin s.tasks v purpose → MayBegin after v purpose
    mine_kept none v b is_b (Admit u e) may =
        ⊎_elim
        (λ (same : u ≡ t).
        let one = one_task s.tasks t may.0 old (subst (λ (x : ℕ). IsTask s.tasks x may.0) same may.1) is in
        absurd (none v b is_b (sym (ap (λ (x : Task). x.status) one) ∙ may.2) (sym (ap (λ (x : Task). x.turn) one) ∙ may.3)))
        (λ (other : u ≢ t). (may.0, becomes.others u other ∙ may.1, may.2, may.3, may.4))
        (cases_eq u t)
    mine_kept none v b is_b (Child u e) may = tt
    mine_kept none v b is_b (Remove u e) may = tt

    pub change_keeps : MeetsConditions after
        → ((v : ℕ) (b : Activity) → s.activities v ≡ Some b → old.status ≡ Made → old.turn ≡ Taken v → ⊥)
        → (new.status ≡ Enabled → new.unplaced ≡ false → AllStand nodes s.records t old)
        → (new.unplaced ≡ true → ⊥)
        → ((c : ℕ) (child : Task) → IsTask s.tasks c child → child.unplaced ≡ true → (born : IsBorn s.tasks c child) → born.maker ≡ t → ⊥)
        → ((c p : ℕ) (child : Task) → IsTask s.tasks c child → child.status ≡ Enabled → SpawnedBy s.tasks.links c p → SpawnedBy after.links c p)
        → Kept nodes (record s { tasks = after })
    change_keeps given none stand placed childless spawned =
        tasks_keep given (mine_kept none)
        (λ u task is_u enabled at_rest.
        ⊎_elim
        (λ (same : (u ≡ t) × (new ≡ task)).
        let stands = stand (ap (λ (x : Task). x.status) same.1 ∙ enabled) (ap (λ (x : Task). x.unplaced) same.1 ∙ at_rest) in
        subst (λ (x : ℕ). AllStand nodes s.records x task) (sym same.0)
        (λ e has. stands e (subst (λ (es : List Effect). Contains es e) (ap (λ (x : Task). x.effects) (sym same.1) ∙ effects) has)))
        (λ (other : (u ≢ t) × IsTask s.tasks u task). kept.full u task other.1 enabled at_rest)
        (back u task is_u))
        (λ c child is_c unplaced.
        ⊎_elim
        (λ (same : (c ≡ t) × (new ≡ child)). absurd (placed (ap (λ (x : Task). x.unplaced) same.1 ∙ unplaced)))
        (λ (other : (c ≢ t) × IsTask s.tasks c child).
        let born = kept.born c child other.1 unplaced in
        record {
          enabled = born.enabled;
          maker = born.maker;
          parent = born.parent;
          spawned = spawned c born.maker child other.1 born.enabled born.spawned;
          is = becomes.others born.maker (childless c child other.1 unplaced born) ∙ born.is;
          active = born.active;
          placed = born.placed;
          made = born.made;
          worker = born.worker;
          turns = born.turns;
        })
        (back c child is_c))
