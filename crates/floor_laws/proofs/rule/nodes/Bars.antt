-- What stands in the way of a task forbids its admission, if no seat has another turn.
use Rattle.std.proofs.Common.{◌≡◌, ◌≢◌, ℕ, List, refl, sym, ap, subst, ◌∙◌, inl, inr, ⊎_elim, ◌⊎◌}
use Rattle.std.specs.Prelude.{Contains}
use Rattle.region_paths.specs.declared.elements.Elem.{Elem}
use Rattle.effect_sets.specs.declared.effects.Effect.{Effect}
use Rattle.wait_graph.specs.Waiting.{SpawnedBy, WaitsOn}
use Rattle.wait_graph.proofs.ChainLemmas.{Chain-fork, Chain-stays}
use Rattle.wait_graph.proofs.WaitingLemmas.{WaitsFor-one, YieldsTo-rootless}
use Rattle.twe_base.specs.Limits.{Bounds}
use Rattle.twe_program.specs.Program.{Program}
use Rattle.machine_state.specs.declared.state.State as machine
use Rattle.machine_state.specs.declared.state.TaskRow.{TaskRow}
use Rattle.machine_state.specs.declared.state.TaskStatus.{TaskStatus}
use Rattle.machine_state.specs.declared.state.TaskStatus.TheVariants as status
use Rattle.machine_state.specs.Legal.{Interfere, MayAdmit}
use Rattle.machine_state.specs.Rows.{HasStatus}
use Rattle.machine_state.specs.Runs.{state_after}
use Rattle.isolation_laws.proofs.admission.Statuses.{reached_made}
use Rattle.seg_journal.specs.declared.numbered.NumberedEntry.{NumberedEntry}
use Rattle.seg_journal.specs.Merging.{journal_of}
use Rattle.floor_laws.specs.rule.Floors.{Floor}
use Rattle.floor_laws.proofs.rule.Puts.{none_some}
use Rattle.floor_laws.specs.admission.admission_core.States.{State, Record}
use Rattle.floor_laws.proofs.admission.admission_core.EffectLemmas.{some_interfere}
use Rattle.floor_laws.specs.rule.nodes.FactSteps.{HasOnly, IsInTheWay}
use Rattle.floor_laws.specs.rule.nodes.Fitting.{IsPlaced}
use Rattle.floor_laws.specs.rule.nodes.Rule.{KeepsBoth}
use Rattle.floor_laws.specs.rule.nodes.Trees.{Tree}
use Rattle.floor_laws.proofs.rule.nodes.Facts.{stands_placed}

pub enabled_or_not : (x : TaskStatus) → (x ≡ status.Enabled) ⊎ (x ≢ status.Enabled)
enabled_or_not status.Made = inr (λ h. cc)
enabled_or_not status.Enabled = inl refl
enabled_or_not status.Done = inr (λ h. cc)
enabled_or_not status.Faulted = inr (λ h. cc)

module _ (nodes : List (List Elem)) (p : Program) (lim : Bounds) (log : List NumberedEntry) (f : Floor) (tree : Tree) (core : State)
    (both : KeepsBoth nodes p lim log f tree core) (i t : ℕ) (r : Record) (only : HasOnly f.held t)
    (bar : IsInTheWay (state_after p lim (journal_of log)) f.held core.records i t r) where
  abbrev st : machine.State
  st = state_after p lim (journal_of log)

  placed : IsPlaced nodes (state_after p lim (journal_of log)) r
  placed = stands_placed nodes p lim log f tree core both r bar.stands

  -- its task is enabled, since nobody has its turn
  enabled : HasStatus (state_after p lim (journal_of log)) r.task status.Enabled
  enabled =
      ⊎_elim
      (λ (is : placed.row.status ≡ status.Enabled). (placed.row, placed.there, is))
      (λ (other : placed.row.status ≢ status.Enabled).
      let owned = both.nodes_keep.known.owned r placed.row bar.stands placed.there other in
      absurd (bar.other (only owned.0 r.task owned.1)))
      (enabled_or_not placed.row.status)

  interfere : Interfere (state_after p lim (journal_of log)) r.task t
  interfere =
      let own = both.floor.fits.rows i t bar.turn bar.has in
      let effects : own.row.effects.effects ≡ bar.turn.row.effects.effects = ap (λ (x : TaskRow). x.effects.effects) own.same in (
        placed.row,
        own.row,
        placed.there,
        own.there,
        some_interfere placed.row.effects.effects own.row.effects.effects r.effect bar.effect placed.effect
            (subst (λ (es : List Effect). Contains es bar.effect) (sym effects) bar.among) bar.meets,
      )

  pub forbidden : ¬ MayAdmit (state_after p lim (journal_of log)) t
  forbidden may =
      let alone = reached_made p both.well lim st (record { journal = journal_of log; legal = both.floor.legal; same = refl }) t may.0.0 may.0.1 may.0.2 in
      let rootless : (c : ℕ) → ¬ SpawnedBy st.links t c = λ c by. none_some (sym alone.linked_parent ∙ by.parent) in
      let waits : WaitsOn st.links r.task t = YieldsTo-rootless rootless (may.1 r.task bar.other enabled interfere) in
      ⊎_elim
      (λ (first : WaitsOn st.links bar.end t). bar.away (Chain-stays bar.free first))
      (λ (second : WaitsOn st.links t bar.end). bar.away (sym (Chain-stays alone.free second)))
      (Chain-fork (λ x y z a b. WaitsFor-one a b) bar.chain waits)
