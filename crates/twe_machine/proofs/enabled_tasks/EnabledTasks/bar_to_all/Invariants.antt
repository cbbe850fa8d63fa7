-- Nobody is a bar to the effects so far.
use Rattle.std.proofs.Common.{◌≡◌, ◌<◌, ℕ, Some}
use Rattle.std.specs.Prelude.{slice_get}
use Rattle.effect_sets.specs.declared.effects.Effect.{Effect}
use Rattle.effect_sets.specs.Interference.{Interferes}
use Rattle.twe_machine.specs.Books.{IsEntered}
use Rattle.twe_machine.specs.Queues.{IsNoBar}
use Rattle.twe_machine.proofs.enabled_tasks.EnabledTasks.bar_to_all.Given as goal

abbrev pub invariant-loop-effect : goal.invariant-loop-effect
invariant-loop-effect l =
    (k s : ℕ) (f e : Effect) → k < l.effect-index → slice_get l.effects k ≡ Some f → IsEntered l.self s e → Interferes e f → IsNoBar l.st l.t s
