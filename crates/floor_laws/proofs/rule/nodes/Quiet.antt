-- If no seat has a turn, the records that stand are those of the enabled tasks.
use Rattle.std.proofs.Common.{◌≡◌, ◌≢◌, ℕ, List, sym, ap, subst, ◌∙◌, ⊎_elim}
use Rattle.std.specs.Prelude.{Contains}
use Rattle.region_paths.specs.declared.elements.Elem.{Elem}
use Rattle.effect_sets.specs.declared.effects.Effect.{Effect}
use Rattle.twe_base.specs.Limits.{Bounds}
use Rattle.twe_program.specs.Program.{Program}
use Rattle.machine_state.specs.declared.state.State as machine
use Rattle.machine_state.specs.declared.state.TaskStatus.TheVariants as status
use Rattle.machine_state.specs.Runs.{state_after}
use Rattle.seg_journal.specs.declared.numbered.NumberedEntry.{NumberedEntry}
use Rattle.seg_journal.specs.Merging.{journal_of}
use Rattle.floor_laws.specs.rule.Floors.{Floor}
use Rattle.floor_laws.specs.rule.Steps.{HasNoTurn}
use Rattle.floor_laws.proofs.rule.Puts.{none_some}
use Rattle.floor_laws.specs.admission.admission_core.States.{State, IsAmong, Record}
use Rattle.floor_laws.specs.admission.TasksOf.{status_of}
use Rattle.floor_laws.specs.rule.nodes.Rule.{KeepsBoth}
use Rattle.floor_laws.specs.rule.nodes.Starts.{AreOfEnabled, IsOfEnabled}
use Rattle.floor_laws.specs.rule.nodes.Trees.{Tree}
use Rattle.floor_laws.proofs.rule.nodes.Bars.{enabled_or_not}
use Rattle.floor_laws.proofs.rule.nodes.Facts.{stands_placed}
use Rattle.floor_laws.proofs.rule.nodes.KnownTasks.{task_of_row}
use Rattle.floor_laws.proofs.rule.nodes.LockEvents.{invariant}
use Rattle.floor_laws.proofs.rule.nodes.TurnEvents.{free_turn}

module _ (nodes : List (List Elem)) (p : Program) (lim : Bounds) (log : List NumberedEntry) (f : Floor) (tree : Tree) (core : State)
    (both : KeepsBoth nodes p lim log f tree core) (none : (i : ℕ) → HasNoTurn f i) where
  abbrev st : machine.State
  st = state_after p lim (journal_of log)

  of_enabled : (r : Record) → IsAmong r core.records → IsOfEnabled nodes (state_after p lim (journal_of log)) r
  of_enabled r among =
      let placed = stands_placed nodes p lim log f tree core both r among in
      record {
        placed = placed;
        enabled =
            ⊎_elim
            (λ (is : placed.row.status ≡ status.Enabled). is)
            (λ (other : placed.row.status ≢ status.Enabled).
            let owned = both.nodes_keep.known.owned r placed.row among placed.there other in
            absurd (none_some (sym (none owned.0 r.task) ∙ owned.1.1)))
            (enabled_or_not placed.row.status);
      }

  pub shows_enabled : AreOfEnabled nodes (state_after p lim (journal_of log)) core.records
  shows_enabled = record {
    once = both.nodes_keep.records.once;
    only = of_enabled;
    all = λ t row e there is has.
        let known = task_of_row (journal_of log) st f.held core.tasks both.nodes_keep.tasks t row there in
        let free = free_turn f.held t (λ i. none i t) known.task.turn known.task.unplaced (both.nodes_keep.tasks.whose t known.task known.is) in
        (invariant nodes p lim log f tree core both).full t known.task known.is (known.status_is ∙ ap status_of is) free.1 e
        (subst (λ (es : List Effect). Contains es e) (sym known.effects) has);
  }
