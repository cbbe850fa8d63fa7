-- The effects so far were entered.
use Rattle.std.proofs.Common.{◌≡◌, ◌<◌, ℕ, Some}
use Rattle.std.specs.Prelude.{slice_get}
use Rattle.effect_sets.specs.declared.effects.Effect.{Effect}
use Rattle.machine_state.specs.declared.state.TaskStatus.TheVariants.{Enabled}
use Rattle.twe_machine.specs.Books.{AreDecided, IsEntered}
use Rattle.machine_state.specs.Rows.{HasStatus}
use Rattle.twe_machine.proofs.enabled_tasks.EnabledTasks.add_all.Given as goal

abbrev pub invariant-loop-effect : goal.invariant-loop-effect
invariant-loop-effect l = record {
  added : (k : ℕ) (e : Effect) → k < l.effect-index → slice_get l.effects k ≡ Some e → IsEntered l.self l.t e;
  kept : (s : ℕ) (e : Effect) → HasStatus l.st s Enabled → IsEntered l.initial.self s e → IsEntered l.self s e;
  decided : AreDecided l.st.links l.self;
}
