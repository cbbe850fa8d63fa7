-- The effects of the tasks so far were entered.
use Rattle.std.proofs.Common.{◌≡◌, ◌<◌, ℕ}
use Rattle.effect_sets.specs.declared.effects.Effect.{Effect}
use Rattle.machine_state.specs.declared.state.TaskRow.{TaskRow}
use Rattle.machine_state.specs.declared.state.TaskStatus.TheVariants.{Enabled}
use Rattle.twe_machine.specs.Books.{AreDecided, IsEntered}
use Rattle.twe_machine.specs.Listings.{HasEffect}
use Rattle.machine_state.specs.Rows.{IsRow}
use Rattle.twe_machine.proofs.enabled_tasks.EnabledTasks.of.Given as goal

abbrev pub invariant-loop-t : goal.invariant-loop-t
invariant-loop-t l = record {
  all : (s : ℕ) (row : TaskRow) (e : Effect) → s < l.t → IsRow l.st s row → row.status ≡ Enabled → HasEffect row.effects.effects e → IsEntered l.enabled s e;
  decided : AreDecided l.st.links l.enabled;
}
