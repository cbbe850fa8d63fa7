-- The invariant stays when a record of an effect is put at its place, and when one is taken out.
use Rattle.std.proofs.Common.{◌≡◌, ◌≢◌, ℕ, List, [], ◌∷◌, Some, refl, sym, ap, subst, ◌∙◌, ◌⊎◌, inl, inr, ⊎_elim}
use Rattle.std.proofs.lemmas.Bool.{cases_eq}
use Rattle.region_paths.specs.declared.elements.Elem.{Elem}
use Rattle.effect_sets.specs.declared.effects.Effect.{Effect}
use Rattle.effect_sets.specs.Interference.{Interferes}
use Rattle.prefix_tree.specs.Nodes.{IsTreeOfPaths}
use Rattle.effect_tree.specs.Place.{IsSolid}
use Rattle.wait_graph.specs.Chain.{none}
use Rattle.wait_graph.specs.Waiting.{DescendsFrom, YieldsTo}
use Rattle.floor_laws.specs.admission.admission_core.Tasks.{IsLive}
use Rattle.floor_laws.specs.admission.admission_core.States.{IsAmong, IsAbove, IsPlaceOf, Record, Purpose, Admit, Child, Remove, record_effect, Walks, held, Activity, State, IsApartBelow, RecordPasses, PassesFor}
use Rattle.floor_laws.specs.admission.admission_core.Events.{AllFinishedOrApart}
use Rattle.floor_laws.proofs.admission.admission_core.TreeLemmas.{above_antisym, above_refl, apart_lower, child_toward}
use Rattle.floor_laws.proofs.admission.admission_core.Invariant.{IsPast, Going, IsHome, Kept}
use Rattle.floor_laws.proofs.admission.admission_core.EffectLemmas.{mutual_interference, meeting_places, solid_place}
use Rattle.floor_laws.proofs.admission.admission_core.StageLemmas.{HoldsOnWay, IsUnderFinished, past_holds, past_place}
use Rattle.floor_laws.proofs.admission.admission_core.PutLemmas.{some_one}

swapped : {A B : Type 0} → A ⊎ B → B ⊎ A
swapped (inl a) = inr a
swapped (inr b) = inl b

module _ (nodes : List (List Elem)) (tree : IsTreeOfPaths nodes) (s : State) (kept : Kept nodes s) where
  pub add_record : (r : Record) → IsHome nodes s.tasks r
      → ((q : Record) → IsAmong q s.records → IsLive s.tasks q.task → IsLive s.tasks r.task → Interferes q.effect r.effect → YieldsTo s.tasks.links q.task r.task ⊎ YieldsTo s.tasks.links r.task q.task)
      → ((v : ℕ) (b : Activity) → s.activities v ≡ Some b → IsPast nodes b.stage r.node → PassesFor s.tasks b.purpose r)
      → Kept nodes (record s { records = r ∷ s.records })
  add_record r home pair pass = record {
    given = kept.given;
    home = λ q among.
        ⊎_elim
        (λ (same : q ≡ r). subst (λ (x : Record). IsHome nodes s.tasks x) (sym same) home)
        (λ (old : IsAmong q s.records). kept.home q old)
        among;
    pairs = λ p q p_among q_among p_live q_live i.
        ⊎_elim
        (λ (p_new : p ≡ r).
        ⊎_elim
        (λ (q_new : q ≡ r). inl (p.task, none, subst (λ (x : ℕ). DescendsFrom s.tasks.links x p.task) (ap (λ (x : Record). x.task) (p_new ∙ sym q_new)) none))
        (λ (q_old : IsAmong q s.records).
        subst (λ (x : Record). YieldsTo s.tasks.links x.task q.task ⊎ YieldsTo s.tasks.links q.task x.task) (sym p_new)
        (swapped (pair q q_old q_live (subst (λ (x : Record). IsLive s.tasks x.task) p_new p_live) (subst (λ (x : Record). Interferes q.effect x.effect) p_new (mutual_interference p.effect q.effect i)))))
        q_among)
        (λ (p_old : IsAmong p s.records).
        ⊎_elim
        (λ (q_new : q ≡ r).
        subst (λ (x : Record). YieldsTo s.tasks.links p.task x.task ⊎ YieldsTo s.tasks.links x.task p.task) (sym q_new)
        (pair p p_old p_live (subst (λ (x : Record). IsLive s.tasks x.task) q_new q_live) (subst (λ (x : Record). Interferes p.effect x.effect) q_new i)))
        (λ (q_old : IsAmong q s.records). kept.pairs p q p_old q_old p_live q_live i)
        q_among)
        p_among;
    full = λ t task is enabled placed e has.
        let stands = kept.full t task is enabled placed e has in
        (stands.0, stands.1, inr stands.2);
    born = kept.born;
    owner = kept.owner;
    going = λ v b is.
        let g = kept.going v b is in
        record {
          place = g.place;
          way = g.way;
          mine = g.mine;
          seen = λ q among past.
              ⊎_elim
              (λ (same : q ≡ r).
              subst (λ (x : Record). PassesFor s.tasks b.purpose x) (sym same) (pass v b is (subst (λ (x : Record). IsPast nodes b.stage x.node) same past)))
              (λ (old : IsAmong q s.records). g.seen q old past)
              among;
          rim = g.rim;
        };
    shut = kept.shut;
  }

  module _ (w t place : ℕ) (e : Effect) (done : List ℕ)
      (active : s.activities w ≡ Some (record { purpose = Admit t e; place = place; stage = Walks (place ∷ []) done }))
      (pass : (r : Record) → IsAmong r s.records → r.node ≡ place → RecordPasses s.tasks t e r)
      (below : IsSolid e.path ⊎ AllFinishedOrApart nodes e place done) where
    abbrev own : Activity
    own = record { purpose = Admit t e; place = place; stage = Walks (place ∷ []) done }

    abbrev new : Record
    new = record { task = t; effect = e; node = place }

    going : Going nodes s.tasks s.records w own
    going = kept.going w own active

    -- each record passes for t, wherever it stands
    all_pass : (q : Record) → IsAmong q s.records → RecordPasses s.tasks t e q
    all_pass q among live i =
        let home = (kept.home q among).place in
        ⊎_elim
        (λ (same : q.node ≡ place). pass q among same live i)
        (λ (other : q.node ≢ place).
        ⊎_elim
        (λ (up : IsAbove nodes q.node place). going.seen q among (inl (record { above = up; other = other })) live i)
        (λ (low : IsAbove nodes place q.node).
        ⊎_elim
        (λ (solid : IsSolid e.path).
        absurd (other (above_antisym nodes tree q.node place (solid_place nodes tree e q.effect place q.node solid going.place home (mutual_interference q.effect e i)) low)))
        (λ (all : AllFinishedOrApart nodes e place done).
        let next = child_toward nodes tree place q.node (record { above = low; other = λ same. other (sym same) }) in
        ⊎_elim
        (λ (fin : IsAmong next.0 done). going.seen q among (inr (next.0, fin, next.2)) live i)
        (λ (apart : IsApartBelow nodes e next.0). absurd (apart q.effect q.node home next.2 i))
        (all next.0 next.1))
        below)
        (meeting_places nodes tree q.effect e q.node place home going.place i))
        (cases_eq q.node place)

    -- no other activity for an effect that interferes has been past the place
    none_past : (v : ℕ) (b : Activity) (u : ℕ) (f : Effect) → v ≢ w → s.activities v ≡ Some b → b.purpose ≡ Admit u f → IsPast nodes b.stage place → Interferes e f → ⊥
    none_past v b u f other is purpose past i =
        let g = kept.going v b is in
        let at = subst (λ (x : Purpose). IsPlaceOf nodes (record_effect x) b.place) purpose g.place in
        let under : IsUnderFinished nodes b.stage place → ⊥ =
        λ low.
        let apart = subst (λ (x : Purpose). IsApartBelow nodes (record_effect x) place) purpose (kept.shut v w b low.0 place is low.1 low.2 (own, active, inl refl)) in
        apart e place going.place (above_refl nodes tree place going.place.there) i in
        let both : IsAmong place (held b.stage) → ⊥ = λ holds. other (kept.owner v w place (b, is, holds) (own, active, inl refl)) in
        ⊎_elim
        (λ (solid : IsSolid e.path).
        let low = solid_place nodes tree e f place b.place solid going.place at i in
        ⊎_elim
        (λ (holds : IsAmong place (held b.stage)). both holds)
        (λ low. under low)
        (past_place nodes tree b.place b.stage place g.place.there g.way low past))
        (λ (all : AllFinishedOrApart nodes e place done).
        ⊎_elim
        (λ (holds : IsAmong place (held b.stage)). both holds)
        (λ (rest : HoldsOnWay nodes b.place b.stage place ⊎ IsUnderFinished nodes b.stage place).
        ⊎_elim
        (λ (over : HoldsOnWay nodes b.place b.stage place).
        let next = child_toward nodes tree place over.0 over.2 in
        let apart : IsApartBelow nodes e over.0 =
        ⊎_elim
        (λ (fin : IsAmong next.0 done). kept.shut w v own next.0 over.0 active fin next.2 (b, is, over.1))
        (λ (child : IsApartBelow nodes e next.0). apart_lower nodes tree e next.0 over.0 next.2 child)
        (all next.0 next.1) in
        apart f b.place at over.3 (mutual_interference e f i))
        (λ (low : IsUnderFinished nodes b.stage place). under low)
        rest)
        (past_holds nodes tree b.place b.stage place g.place.there g.way past))
        below

    for_other : (v : ℕ) (b : Activity) (purpose : Purpose) → v ≢ w → s.activities v ≡ Some b → b.purpose ≡ purpose → IsPast nodes b.stage place → PassesFor s.tasks purpose new
    for_other v b (Admit u f) other is same past = λ live i. absurd (none_past v b u f other is same past i)
    for_other v b (Child u f) other is same past = tt
    for_other v b (Remove u f) other is same past = tt

    pub place_keeps : Kept nodes (record s { records = record { task = t; effect = e; node = place } ∷ s.records })
    place_keeps =
        add_record new
        (record { task = (going.mine.0, going.mine.1, going.mine.4); place = going.place })
        (λ q among q_live live i. inl (all_pass q among q_live i))
        (λ v b is past.
        ⊎_elim
        (λ (same : v ≡ w).
        let one = some_one (sym active ∙ sym (ap s.activities same) ∙ is) in
        subst (λ (x : Activity). PassesFor s.tasks x.purpose new) one (λ live i. (t, none, none)))
        (λ (other : v ≢ w). for_other v b b.purpose other is refl past)
        (cases_eq v w))
