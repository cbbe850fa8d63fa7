-- A task that a worker has taken in hand.
use Rattle.std.specs.Prelude.{◌≡◌, ℕ, List}
use Rattle.region_paths.specs.declared.elements.Elem.{Elem}
use Rattle.floor_laws.specs.declared.rule.view.HeldTurn.{HeldTurn}
use Rattle.task_floor.specs.Holding.{HoldsTaskBeside}
use Rattle.task_floor.specs.Stands.{TreeStand}
use Rattle.tree_admit.specs.declared.serving.worker.Holding.{Holding}
use Rattle.tree_admit.specs.serving.Working.{SameTreeStand}
use Rattle.tree_admit.specs.serving.inner.InHand.{HasTakenSince}

-- the worker with the stand `before` has task t in hand now: the task's turn, and what its slot held
pub record HasTakenInHand (nodes : List (List Elem)) (before : TreeStand) (t : ℕ) (holding : Holding) : Type 0 where
  pub task : holding.task ≡ t
  pub turn : HeldTurn
  pub holds : HoldsTaskBeside nodes holding.number holding.stand.me holding.log holding.task holding.slot turn
  pub since : HasTakenSince before.me holding.stand.me holding.task
  pub same : SameTreeStand before holding.stand
