-- What the only stand finds in the way of an admission.
use Rattle.std.proofs.Common.{◌≡◌, ◌≢◌, ◌⊎◌, ℕ, Bool, true, false, List, None, Some, IsTrue, refl, sym, ap, subst, ◌∙◌, inl, inr, ⊎_elim}
use Rattle.std.specs.Prelude.{Contains, not}
use Rattle.std.proofs.lemmas.Bool.{and_parts}
use Rattle.region_paths.specs.Apart.{apart}
use Rattle.region_paths.specs.Filled.{filled}
use Rattle.region_paths.proofs.Meeting.{not_apart-meet}
use Rattle.effect_sets.specs.declared.effects.Effect.{Effect}
use Rattle.effect_sets.specs.Interference.{Interferes, one_writes, statically_interferes}
use Rattle.wait_graph.specs.Link.{link_of}
use Rattle.wait_graph.specs.Waiting.{SpawnedBy, WaitsOn}
use Rattle.wait_graph.proofs.ChainLemmas.{Chain-fork, Chain-push, Chain-stays}
use Rattle.wait_graph.proofs.WaitingLemmas.{WaitsFor-done, WaitsFor-one, YieldsTo-rootless}
use Rattle.twe_base.specs.Limits.{Bounds}
use Rattle.twe_program.specs.Program.{Program}
use Rattle.machine_state.specs.declared.state.State.{State}
use Rattle.machine_state.specs.declared.state.TaskRow.{TaskRow}
use Rattle.machine_state.specs.Legal.{Interfere, MayAdmit}
use Rattle.machine_state.proofs.tasks.Filled.{reached_filled}
use Rattle.isolation_laws.proofs.admission.Statuses.{reached_made}
use Rattle.floor_laws.specs.declared.rule.view.HeldTurn.{HeldTurn}
use Rattle.floor_laws.specs.declared.rule.view.Phase.{Phase}
use Rattle.floor_laws.specs.declared.rule.view.Phase.TheVariants.{Absent, Made, Running, Waits, Done, Faulted}
use Rattle.floor_laws.proofs.rule.Puts.{none_some, some_one}
use Rattle.floor_laws.specs.table.Alone.{IsAloneAt, awaited_by}
use Rattle.floor_laws.specs.table.FloorOf.{turn_in}
use Rattle.floor_laws.specs.table.Layout.{word_of_phase}
use Rattle.floor_laws.proofs.table.Steps.{phase_again}
use Rattle.floor_laws.specs.declared.table.view.View.{View}
use Rattle.floor_laws.specs.admission.admission_core.States.{Record}
use Rattle.floor_laws.proofs.admission.admission_core.EffectLemmas.{filled_among, some_interfere}
use Rattle.floor_laws.specs.declared.table.nodes.view.TreeView.{TreeView}
use Rattle.floor_laws.specs.table.nodes.Alone.{LearnsAlone}
use Rattle.floor_laws.specs.table.nodes.Seats.{TreeSeat}
use Rattle.floor_laws.specs.table.nodes.TreeOf.{content_in}
use Rattle.task_floor.proofs.Alone.{alone_still}
use Rattle.tree_admit.specs.Alone.{FollowedAlone, HasOnlyTurnOf, IsInTheWayIfAlone, LeadsElsewhere, StandsInTheWay}
use Rattle.tree_admit.specs.Going.{HasOnlyFollowed, HasOnlyLearned}
use Rattle.tree_admit.specs.inner.Served.{HasOnlyServed}

pub learned_served : (t : ℕ) (u v : TreeView) → HasOnlyLearned u v → HasOnlyServed t u.floor v.floor
learned_served t u v h = record {
  kind = ap (λ (f : View). f.kind) h.floor;
  out = ap (λ (f : View). f.out) h.floor;
  part = ap (λ (f : View). f.part) h.floor;
  turns = λ w other. ap (λ (f : View). turn_in f.turns w) h.floor;
  own = λ turn has. ap (λ (f : View). turn_in f.turns t) h.floor ∙ has;
}

-- so it is the only seat at the same state
pub alone_then : (p : Program) (lim : Bounds) (t : ℕ) (u v : View) (st : State) → HasOnlyServed t u v → IsAloneAt p lim u st → IsAloneAt p lim v st
alone_then p lim t u v st same alone = alone_still p lim u v st same.kind same.out same.part alone

pub only_then : (t : ℕ) (u v : View) → HasOnlyServed t u v → HasOnlyTurnOf u t → HasOnlyTurnOf v t
only_then t u v same only w other = same.turns w other ∙ only w other

pub in_the_way_since : (p : Program) (lim : Bounds) (t : ℕ) (r : Record) (u v : View) → HasOnlyServed t u v → IsInTheWayIfAlone p lim v t r → IsInTheWayIfAlone p lim u t r
in_the_way_since p lim t r u v same way st alone only =
    let then = way st (alone_then p lim t u v st same alone) (only_then t u v same only) in
    record {
      of_enabled = then.of_enabled;
      leads = then.leads;
      row = λ turn row has there. then.row turn row (same.own turn has) there;
      legal = then.legal;
    }

-- Following.

module _ (p : Program) (lim : Bounds) (from to at : ℕ) (phase : Phase) (start : TreeSeat) (before : TreeSeat) (only : HasOnlyFollowed start before) (learns : LearnsAlone p lim before.0 at (word_of_phase phase))
    (other : at ≢ to) where
  served : HasOnlyServed to start.0.floor before.0.floor
  served = learned_served to start.0 before.0 only.learned

  module _ (st : State) (alone : IsAloneAt p lim start.0.floor st) (turns : HasOnlyTurnOf start.0.floor to) where
    alone_now : IsAloneAt p lim before.0.floor st
    alone_now = alone_then p lim to start.0.floor before.0.floor st served alone

    said : (link_of st.links at).waits ≡ awaited_by phase
    said = learns.waits st alone_now (only_then to start.0.floor before.0.floor served turns at other) ∙ ap awaited_by (phase_again phase)

    -- the chain goes on, or the awaited task is done and it has ended here
    pub leads_on : (on : ℕ) → phase ≡ Waits on → WaitsOn st.links from at ⊎ LeadsElsewhere st.links from to → WaitsOn st.links from on ⊎ LeadsElsewhere st.links from to
    leads_on on is (inr ended) = inr ended
    leads_on on is (inl chain) = by (link_of st.links on).done refl
      where
        waits : (link_of st.links at).waits ≡ Some on
        waits = said ∙ ap awaited_by is

        by : (done : Bool) → (link_of st.links on).done ≡ done → WaitsOn st.links from on ⊎ LeadsElsewhere st.links from to
        by false undone = inl (Chain-push chain (record { waits = waits; undone = undone }))
        by true done =
            inr
            (record {
              end = at;
              chain = chain;
              free = λ u wait.
                  let same : on ≡ u = some_one (sym waits ∙ wait.waits) in
                  WaitsFor-done {t = u} (subst (λ (x : ℕ). (link_of st.links x).done ≡ true) same done) wait;
              away = other;
            })

    -- it has ended here
    pub leads_away : ((on : ℕ) → phase ≢ Waits on) → WaitsOn st.links from at ⊎ LeadsElsewhere st.links from to → LeadsElsewhere st.links from to
    leads_away no_wait (inr ended) = ended
    leads_away no_wait (inl chain) = record {
      end = at;
      chain = chain;
      free = λ u wait. none_some (sym (said ∙ awaits_none phase no_wait) ∙ wait.waits);
      away = other;
    }
      where
        awaits_none : (phase : Phase) → ((on : ℕ) → phase ≢ Waits on) → awaited_by phase ≡ None
        awaits_none Absent other = refl
        awaits_none Made other = refl
        awaits_none Running other = refl
        awaits_none (Waits on) other = absurd (other on refl)
        awaits_none Done other = refl
        awaits_none Faulted other = refl

  -- what is known then, if no entry was drawn on the way
  pub followed_alone : ((on : ℕ) → phase ≢ Waits on) → ((st : State) → IsAloneAt p lim start.0.floor st → HasOnlyTurnOf start.0.floor to → WaitsOn st.links from at ⊎ LeadsElsewhere st.links from to)
      → FollowedAlone p lim start.0 from to
  followed_alone no_wait came = record {
    elsewhere = λ st alone turns. leads_away st alone turns no_wait (came st alone turns);
    rows = λ st t turn row alone has there. learns.rows st t turn row (alone_now st alone) (ap (λ (f : View). turn_in f.turns t) only.learned.floor ∙ has) there;
    legal = λ st alone. learns.legal st (alone_now st alone);
    enabled = λ st alone n content r has among not.
        learns.enabled st (alone_now st alone) n content r (ap (λ l. content_in l n) only.kept ∙ has) among (ap (λ (f : View). turn_in f.turns r.task) only.learned.floor ∙ not);
  }
    where
      alone_now : (st : State) → IsAloneAt p lim start.0.floor st → IsAloneAt p lim before.0.floor st
      alone_now st alone = alone_then p lim to start.0.floor before.0.floor st served alone

-- Forbidding.

meets : (a b : Effect) → IsTrue (filled a.path) → IsTrue (filled b.path) → IsTrue (statically_interferes a b) → Interferes a b
meets a b a_filled b_filled is =
    let parts = and_parts (one_writes a b) (not (apart a.path b.path)) is in
    (parts.0, not_apart-meet a.path b.path a_filled b_filled (false_of (apart a.path b.path) parts.1))
  where
    false_of : (x : Bool) → not x ≡ true → x ≡ false
    false_of true h = cc (h)
    false_of false h = refl

pub forbids : (p : Program) (lim : Bounds) (v : View) (st : State) (t : ℕ) (r : Record) (e : Effect) (turn : HeldTurn) → StandsInTheWay p lim v st t r → r.task ≢ t → turn_in v.turns t ≡ Some turn
    → Contains turn.row.effects.effects e → IsTrue (statically_interferes r.effect e) → ¬ MayAdmit st t
forbids p lim v st t r e turn way other has contains static may =
    let own = may.0.0 in
    let there = may.0.1 in
    let theirs = way.of_enabled.row in
    let effects = ap (λ (x : TaskRow). x.effects.effects) (way.row turn own has there) in
    let among : Contains own.effects.effects e = subst (λ (es : List Effect). Contains es e) (sym effects) contains in
    let filled_rows = reached_filled p lim st way.legal.0 way.legal.1 in
    let interferes =
    meets r.effect e (filled_among theirs.effects.effects r.effect (filled_rows r.task theirs way.of_enabled.there) way.of_enabled.effect)
    (filled_among own.effects.effects e (filled_rows t own there) among) static in
    let interfere : Interfere st r.task t = (theirs, own, way.of_enabled.there, there, some_interfere theirs.effects.effects own.effects.effects r.effect e way.of_enabled.effect among interferes) in
    let alone = reached_made p way.legal.0 lim st way.legal.1 t own there may.0.2 in
    let rootless : (c : ℕ) → ¬ SpawnedBy st.links t c = λ c by. none_some (sym alone.linked_parent ∙ by.parent) in
    let waits : WaitsOn st.links r.task t = YieldsTo-rootless rootless (may.1 r.task other (theirs, way.of_enabled.there, way.of_enabled.enabled) interfere) in
    ⊎_elim
    (λ (first : WaitsOn st.links way.leads.end t). way.leads.away (Chain-stays way.leads.free first))
    (λ (second : WaitsOn st.links t way.leads.end). way.leads.away (sym (Chain-stays alone.free second)))
    (Chain-fork (λ x y z a b. WaitsFor-one a b) way.leads.chain waits)
