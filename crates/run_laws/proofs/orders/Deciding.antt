-- To a task that was not spawned those alone yield that wait for it, so the task that was admitted last decides for those before it.
use Rattle.std.proofs.Common.{◌≡◌, ◌≢◌, ◌↔◌, ℕ, List, ◌∷◌, None, inl, sym, ap, ◌∙◌, subst}
use Rattle.seg_journal.specs.declared.journal.Entry.{Entry}
use Rattle.twe_base.specs.Limits.{Bounds}
use Rattle.twe_program.specs.Program.{Program}
use Rattle.twe_program.specs.WellFormed.{IsWellFormed}
use Rattle.wait_graph.specs.Chain.{none}
use Rattle.wait_graph.specs.declared.tasks.Link.{Link}
use Rattle.wait_graph.specs.Link.{link_of}
use Rattle.wait_graph.specs.Waiting.{WaitsOn, WaitsOnUnlessDone, YieldsTo}
use Rattle.wait_graph.proofs.ChainLemmas.{Chain-append}
use Rattle.isolation_laws.specs.soundness.KeepsEffects.{KeepsEffects}
use Rattle.machine_state.specs.declared.state.State.{State}
use Rattle.machine_state.specs.declared.state.TaskStatus.TheVariants.{Enabled, Made}
use Rattle.machine_state.specs.Legal.{Interfere, IsBar, MayMove}
use Rattle.machine_state.specs.Moves.{start_of}
use Rattle.machine_state.specs.Rows.{HasStatus}
use Rattle.machine_state.specs.Runs.{Legal, replayed, state_after}
use Rattle.machine_state.proofs.links.ChainsStay.{chain_stays_on}
use Rattle.machine_state.proofs.standing.ReachedStands.{run_stands, start_stands}
use Rattle.machine_state.proofs.standing.Standing.{Stands}
use Rattle.machine_state.proofs.tasks.MadeTasks.{made_row, orphan_by, yields_by}
use Rattle.isolation_laws.proofs.rows.LinksOfRows.{link_there}
use Rattle.run_laws.specs.Orders.{DecidesFor, IsAdmittedAfter}
use Rattle.run_laws.proofs.orders.Enabling.{earlier_yield}
use Rattle.run_laws.proofs.orders.TasksStay.{legal_both, one_status, replayed_both}

-- A task that is not admitted yet.

module _ (p : Program) (lim : Bounds) (st : State) (stands : Stands p lim st) (s t : ℕ) (made : HasStatus st t Made) where
  made_waits : YieldsTo st.links s t → WaitsOn st.links s t
  made_waits yields = yields_by st s t (orphan_by st t (made_row p lim st t stands made).1) yields

  pub made_yields : YieldsTo st.links s t ↔ WaitsOn st.links s t
  made_yields = (made_waits, λ waits. (t, waits, none))

  pub made_bar : HasStatus st s Enabled → Interfere st s t → IsBar st s t ↔ (¬ WaitsOn st.links s t)
  made_bar enabled interfere =
      let differ : s ≢ t = λ same.
      let both : Made ≡ Enabled = sym made.2 ∙ one_status st t made.0 Enabled (subst (λ (x : ℕ). HasStatus st x Enabled) same enabled) made.1 in cc (both) in
      (λ bar waits. bar.3 (t, waits, none), λ free. (differ, enabled, interfere, λ yields. free (made_waits yields)))

-- A task that was admitted.

pub admitted_waits : (p : Program) → IsWellFormed p → (lim : Bounds) (journal : List Entry) → Legal p lim journal → (w r : ℕ) → IsAdmittedAfter p lim journal w r
    → WaitsOnUnlessDone (state_after p lim journal).links r w
admitted_waits p well lim journal legal w r is =
    let start = start_of p lim in
    let st : State = state_after p lim is.earlier in
    let both = legal_both p lim start is.earlier (is.entry ∷ is.later) (subst (Legal p lim) is.split legal) in
    let stands : Stands p lim st = run_stands p lim well start is.earlier both.0 (start_stands p lim well) in
    let may = subst (MayMove st) is.admits both.1.0 in
    let waits = made_waits p lim st stands r w may.0 (may.1 r is.other is.enabled is.interfere) in
    let same : state_after p lim journal ≡ replayed p lim st (is.entry ∷ is.later) = ap (state_after p lim) is.split ∙ replayed_both p lim start is.earlier (is.entry ∷ is.later) in
    subst (λ (end : State). WaitsOnUnlessDone end.links r w) (sym same) (chain_stays_on p lim well st (is.entry ∷ is.later) r w both.1 stands (inl waits))

module _ (p : Program) (well : IsWellFormed p) (keeps : KeepsEffects p) (lim : Bounds) (journal : List Entry) (legal : Legal p lim journal) (w r : ℕ) (is : DecidesFor p lim journal w r) where
  abbrev st : State
  st = state_after p lim journal

  pub decided_waits : WaitsOn st.links r w
  decided_waits =
      let stands : Stands p lim st = run_stands p lim well (start_of p lim) journal legal (start_stands p lim well) in
      let no_parent : (link_of st.links w).parent ≡ None = ap (λ (l : Link). l.parent) (link_there st stands.links w is.row is.there) ∙ is.admitted in
      yields_by st r w (orphan_by st w no_parent) (earlier_yield p well keeps lim journal legal r w is.earlier (is.row, is.there, is.enabled) is.interfere is.before)

  pub decided_leads : (t : ℕ) → WaitsOn st.links w t → WaitsOn st.links r t
  decided_leads t waits = Chain-append decided_waits waits

  pub decided_yields : (t : ℕ) → YieldsTo st.links w t → YieldsTo st.links r t
  decided_yields t yields = (yields.0, Chain-append decided_waits yields.1, yields.2)
