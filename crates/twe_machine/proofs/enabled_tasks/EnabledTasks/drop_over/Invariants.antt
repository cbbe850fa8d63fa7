-- No enabled task was taken out.
use Rattle.std.proofs.Common.{ℕ}
use Rattle.effect_sets.specs.declared.effects.Effect.{Effect}
use Rattle.machine_state.specs.declared.state.TaskStatus.TheVariants.{Enabled}
use Rattle.twe_machine.specs.Books.{AreDecided, IsEntered}
use Rattle.machine_state.specs.Rows.{HasStatus}
use Rattle.twe_machine.proofs.enabled_tasks.EnabledTasks.drop_over.Given as goal

abbrev pub invariant-loop-effect : goal.invariant-loop-effect
invariant-loop-effect l = record {
  kept : (s : ℕ) (e : Effect) → HasStatus l.st s Enabled → IsEntered l.initial.self s e → IsEntered l.self s e;
  decided : AreDecided l.st.links l.initial.self → AreDecided l.st.links l.self;
}
