-- The invariant stays when a record of a spawned child is put at its place: a record of its parent stands above.
use Rattle.std.proofs.Common.{◌≡◌, ℕ, true, List, [], ◌∷◌, Some, refl, sym, subst, inl, ⊎_elim}
use Rattle.std.specs.Prelude.{Contains}
use Rattle.region_paths.specs.declared.elements.Elem.{Elem}
use Rattle.effect_sets.specs.declared.effects.Effect.{Effect}
use Rattle.effect_sets.specs.Interference.{Interferes}
use Rattle.prefix_tree.specs.Nodes.{IsTreeOfPaths}
use Rattle.wait_graph.specs.Waiting.{WaitsForNobody}
use Rattle.floor_laws.specs.admission.admission_core.Tasks.{Task, Tasks, Enabled, IsLiveStatus, IsTask, IsLive}
use Rattle.floor_laws.specs.admission.admission_core.States.{IsAmong, IsAbove, IsApartBelow, IsPlaceOf, Record, Purpose, Admit, Child, Remove, Walks, Activity, State, PassesFor, record_effect}
use Rattle.floor_laws.specs.admission.admission_core.Events.{MayBegin}
use Rattle.floor_laws.specs.admission.admission_core.Rule.{IsBorn}
use Rattle.floor_laws.proofs.admission.admission_core.Invariant.{IsPast, Going, Kept}
use Rattle.floor_laws.proofs.admission.admission_core.EffectLemmas.{mutual_interference, filled_among, covered_more, covering_place}
use Rattle.floor_laws.proofs.admission.admission_core.TreeLemmas.{above_refl}
use Rattle.floor_laws.proofs.admission.admission_core.StageLemmas.{IsUnderFinished, past_mine, past_higher}
use Rattle.floor_laws.proofs.admission.admission_core.FamilyLemmas.{made_not_enabled, yields_by_parent, yields_to_none_made}
use Rattle.floor_laws.proofs.admission.admission_core.RecordLemmas.{add_record}

pub enabled_live : (ts : Tasks) (t : ℕ) (task : Task) → IsTask ts t task → task.status ≡ Enabled → IsLive ts t
enabled_live ts t task is enabled = (task, is, subst IsLiveStatus (sym enabled) tt)

-- the record of its parent that covers an effect of a child that is still to be placed
pub record ParentStands (nodes : List (List Elem)) (s : State) (c : ℕ) (child : Task) (e : Effect) : Type 0 where
  pub born : IsBorn s.tasks c child
  pub effect : Effect
  pub node : ℕ
  pub live : IsLive s.tasks born.maker
  pub nobody : WaitsForNobody s.tasks.links born.maker
  pub place : IsPlaceOf nodes effect node
  pub covers : (x : Effect) → Interferes x e → Interferes x effect
  pub higher : (m : ℕ) → IsPlaceOf nodes e m → IsAbove nodes node m
  pub stands : IsAmong (record { task = born.maker; effect = effect; node = node }) s.records

module _ (nodes : List (List Elem)) (tree : IsTreeOfPaths nodes) (s : State) (kept : Kept nodes s) where
  pub parent_stands : (c : ℕ) (child : Task) (e : Effect) → IsTask s.tasks c child → child.unplaced ≡ true → Contains child.effects e → ParentStands nodes s c child e
  parent_stands c child e is unplaced has =
      let born = kept.born c child is unplaced in
      let d = kept.given.inside c born.maker child born.parent is born.is born.spawned e has in
      let stands = kept.full born.maker born.parent born.is born.active born.placed d.0 d.1 in
      record {
        born = born;
        effect = d.0;
        node = stands.0;
        live = enabled_live s.tasks born.maker born.parent born.is born.active;
        nobody = kept.given.maker born.maker c born.parent born.is born.made;
        place = stands.1;
        covers = λ x i. covered_more x d.0 e (filled_among born.parent.effects d.0 (kept.given.filled born.maker born.parent born.is) d.1) (filled_among child.effects e (kept.given.filled c child is) has) d.2 i;
        higher = λ m at. covering_place nodes tree e d.0 m stands.0 at stands.1 d.2;
        stands = stands.2;
      }

  module _ (w c place : ℕ) (e : Effect) (done : List ℕ) (child : Task)
      (active : s.activities w ≡ Some (record { purpose = Child c e; place = place; stage = Walks (place ∷ []) done }))
      (is : IsTask s.tasks c child) (has : Contains child.effects e) (unplaced : child.unplaced ≡ true) where
    abbrev own : Activity
    own = record { purpose = Child c e; place = place; stage = Walks (place ∷ []) done }

    abbrev new : Record
    new = record { task = c; effect = e; node = place }

    going : Going nodes s.tasks s.records w own
    going = kept.going w own active

    up : ParentStands nodes s c child e
    up = parent_stands c child e is unplaced has

    abbrev parent_record : Record
    parent_record = record { task = up.born.maker; effect = up.effect; node = up.node }

    -- the parent would have to yield to a task that is to be admitted
    no_attempt : (v : ℕ) (b : Activity) (u : ℕ) (f : Effect) → s.activities v ≡ Some b → b.purpose ≡ Admit u f → IsPast nodes b.stage place → Interferes e f → ⊥
    no_attempt v b u f is_b purpose past i =
        let g = kept.going v b is_b in
        let mine = subst (λ (x : Purpose). MayBegin s.tasks v x) purpose (past_mine nodes s.tasks v b.purpose b.stage place g.mine past) in
        ⊎_elim
        (λ (higher : IsPast nodes b.stage up.node).
        let pass = subst (λ (x : Purpose). PassesFor s.tasks x parent_record) purpose (g.seen parent_record up.stands higher) in
        let yield = pass up.live (mutual_interference f up.effect (up.covers f (mutual_interference e f i))) in
        let same = yields_to_none_made s.tasks kept.given up.born.maker u up.nobody (mine.0, mine.1, mine.2) yield in
        made_not_enabled s.tasks u (mine.0, mine.1, mine.2) (up.born.parent, subst (λ (x : ℕ). IsTask s.tasks x up.born.parent) same up.born.is, up.born.active))
        (λ (low : IsUnderFinished nodes b.stage place).
        let apart = subst (λ (x : Purpose). IsApartBelow nodes (record_effect x) place) purpose (kept.shut v w b low.0 place is_b low.1 low.2 (own, active, inl refl)) in
        apart e place going.place (above_refl nodes tree place going.place.there) i)
        (past_higher nodes tree b.stage place up.node (up.higher place going.place) past)

    for_each : (v : ℕ) (b : Activity) (purpose : Purpose) → s.activities v ≡ Some b → b.purpose ≡ purpose → IsPast nodes b.stage place → PassesFor s.tasks purpose new
    for_each v b (Admit u f) is_b same past = λ live i. absurd (no_attempt v b u f is_b same past i)
    for_each v b (Child u f) is_b same past = tt
    for_each v b (Remove u f) is_b same past = tt

    pub child_keeps : Kept nodes (record s { records = record { task = c; effect = e; node = place } ∷ s.records })
    child_keeps =
        add_record nodes tree s kept new
        (record { task = (child, is, has); place = going.place })
        (λ q among q_live live i.
        let home = (kept.home q among).task in
        yields_by_parent s.tasks kept.given c up.born.maker q.task child home.0 e q.effect up.born.spawned up.nobody is has home.1 home.2 i
        (kept.pairs q parent_record among up.stands q_live up.live (up.covers q.effect i)))
        (λ v b is_b past. for_each v b b.purpose is_b refl past)
