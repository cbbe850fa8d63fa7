-- Waits lead to higher numbers and descent to lower ones, so who yields to another task has a lower number.
use Rattle.std.proofs.Common.{◌≢◌, ◌≤◌, ◌<◌, ◌↔◌, ℕ, List, inl, inr, refl, sym, subst, arith}
use Rattle.seg_journal.specs.declared.journal.Entry.{Entry}
use Rattle.twe_base.specs.Limits.{Bounds}
use Rattle.twe_program.specs.Program.{Program}
use Rattle.twe_program.specs.WellFormed.{IsWellFormed}
use Rattle.wait_graph.specs.Chain.{none, more}
use Rattle.wait_graph.specs.Waiting.{DescendsFrom, WaitsOn, YieldsTo}
use Rattle.isolation_laws.specs.soundness.KeepsEffects.{KeepsEffects}
use Rattle.machine_state.specs.declared.state.State.{State}
use Rattle.machine_state.specs.declared.state.TaskStatus.TheVariants.{Enabled}
use Rattle.machine_state.specs.Legal.{Interfere}
use Rattle.machine_state.specs.Rows.{HasStatus}
use Rattle.machine_state.specs.Runs.{IsReached, Legal, state_after}
use Rattle.machine_state.proofs.links.Ordered.{parent_down, waits_up}
use Rattle.machine_state.proofs.standing.ReachedStands.{reached_stands}
use Rattle.machine_state.proofs.standing.Standing.{Stands}
use Rattle.isolation_laws.proofs.effects.Interference.{some-mutual}
use Rattle.isolation_laws.proofs.journals.Journals.{reached_kept}
use Rattle.run_laws.specs.Orders.{WasEnabledBefore}
use Rattle.run_laws.proofs.orders.Enabling.{earlier_yield}
use Rattle.run_laws.proofs.orders.OneByOne.{never_both, some_first}

module _ (p : Program) (lim : Bounds) (st : State) (stands : Stands p lim st) where
  waits_rise : (s u : ℕ) → WaitsOn st.links s u → s ≤ u
  waits_rise s u none = omega arith
  waits_rise s u (more {b = v} wait chain) =
      let first = (waits_up p lim st stands s v wait.waits).0 in
      let others = waits_rise v u chain in
      omega (arith, first, others)

  descent_falls : (t u : ℕ) → DescendsFrom st.links t u → u ≤ t
  descent_falls t u none = omega arith
  descent_falls t u (more {b = q} child chain) =
      let first = parent_down p lim st stands t q child.parent in
      let others = descent_falls q u chain in
      omega (arith, first, others)

  yields_rise : (s t : ℕ) → YieldsTo st.links s t → s ≤ t
  yields_rise s t yields =
      let up = waits_rise s yields.0 yields.1 in
      let down = descent_falls t yields.0 yields.2 in
      omega (arith, up, down)

module _ (p : Program) (well : IsWellFormed p) (lim : Bounds) (st : State) (reached : IsReached p lim st) where
  pub yields_up : (s t : ℕ) → YieldsTo st.links s t → s ≤ t
  yields_up = yields_rise p lim st (reached_stands p lim st well reached)

  pub lower_yields : KeepsEffects p → (s t : ℕ) → s < t → HasStatus st s Enabled → HasStatus st t Enabled → Interfere st s t → YieldsTo st.links s t
  lower_yields keeps s t below may_s may_t i = elim ((reached_kept p well keeps lim st reached).isolated s t (λ same. omega (arith, same, below)) may_s may_t i) [
    | inl yields ↦ yields
    | inr back ↦ let up = yields_up t s back in absurd (omega (arith, up, below))
  ]

module _ (p : Program) (well : IsWellFormed p) (keeps : KeepsEffects p) (lim : Bounds) (journal : List Entry) (legal : Legal p lim journal) where
  abbrev end : State
  end = state_after p lim journal

  -- the one that was enabled before the other has the lower number
  earlier_lower : (s t : ℕ) → s ≢ t → HasStatus end s Enabled → HasStatus end t Enabled → Interfere end s t → WasEnabledBefore p lim journal s t → s < t
  earlier_lower s t differ may_s may_t i before =
      let up = yields_up p well lim end (record { journal = journal; legal = legal; same = refl }) s t (earlier_yield p well keeps lim journal legal s t may_s may_t i before) in
      omega (arith, up, differ)

  pub earlier_is_lower : (s t : ℕ) → HasStatus end s Enabled → HasStatus end t Enabled → Interfere end s t → WasEnabledBefore p lim journal s t ↔ (s < t)
  earlier_is_lower s t may_s may_t i = (
    λ before.
        let differ : s ≢ t = λ same.
        let itself = subst (λ (x : ℕ). WasEnabledBefore p lim journal s x) (sym same) before in never_both p lim well journal legal s s itself itself in
        earlier_lower s t differ may_s may_t i before,
    λ below. elim (some_first p lim well journal legal s t (λ same. omega (arith, same, below)) may_s may_t) [
      | inl before ↦ before
      | inr later ↦
          let back = earlier_lower t s (λ same. omega (arith, same, below)) may_t may_s (i.1, i.0, i.3, i.2, some-mutual (i.0).effects.effects (i.1).effects.effects i.4) later in absurd (omega (arith, back, below))
    ],
  )
