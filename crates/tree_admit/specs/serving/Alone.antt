-- What a worker does with a task, if it is the only one.
use Rattle.std.specs.Prelude.{◌<◌, ℕ}
use Rattle.twe_base.specs.Limits.{Bounds}
use Rattle.twe_program.specs.Program.{Program}
use Rattle.machine_state.specs.declared.state.State.{State}
use Rattle.machine_state.specs.declared.state.TaskStatus.TheVariants as status
use Rattle.machine_state.specs.Legal.{MayAdmit}
use Rattle.machine_state.specs.Rows.{HasStatus}
use Rattle.floor_laws.specs.rule.Fitting.{IsMade}
use Rattle.floor_laws.specs.table.Alone.{IsAloneAt}
use Rattle.floor_laws.specs.declared.table.view.View.{View}
use Rattle.task_floor.specs.declared.steps.served.Served.{Served}
use Rattle.task_floor.specs.declared.steps.served.Served.TheVariants as served
use Rattle.tree_admit.specs.declared.serving.admission.Admission.{Admission}
use Rattle.tree_admit.specs.declared.serving.admission.Admission.TheVariants as admission

-- If a worker with this view is the only one, it finds the turn of each made task free, and says that a task waits for
-- another only if that one is not done.
abbrev pub ServesIfAlone : Program → Bounds → View → ℕ → Served → Type 0
ServesIfAlone p lim v t (served.Ran end) = Unit {0}
ServesIfAlone p lim v t (served.Waits on) = (st : State) → IsAloneAt p lim v st → ¬ HasStatus st on status.Done
ServesIfAlone p lim v t served.Made = Unit {0}
ServesIfAlone p lim v t served.Ended = Unit {0}
ServesIfAlone p lim v t (served.Busy holder) = (st : State) → IsAloneAt p lim v st → ¬ IsMade st t

-- If a worker with this view is the only one, it finds the turn of each made task free, and says that a task is held by
-- another only if it is not legal to admit it. (That one is below the limit on tasks, which the worker does not know.)
abbrev pub AdmitsIfAlone : Program → Bounds → View → ℕ → Admission → Type 0
AdmitsIfAlone p lim v t admission.Admitted = Unit {0}
AdmitsIfAlone p lim v t (admission.Held by) = by < lim.tasks → (st : State) → IsAloneAt p lim v st → ¬ MayAdmit st t
AdmitsIfAlone p lim v t admission.Over = Unit {0}
AdmitsIfAlone p lim v t (admission.Busy holder) = (st : State) → IsAloneAt p lim v st → ¬ IsMade st t
