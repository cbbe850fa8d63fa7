-- What a call of the floor finds that is made by the only stand.
use Rattle.std.specs.Prelude.{◌≡◌, ℕ, None}
use Rattle.twe_base.specs.Limits.{Bounds}
use Rattle.twe_program.specs.Program.{Program}
use Rattle.machine_state.specs.declared.state.State.{State}
use Rattle.machine_state.specs.declared.state.TaskStatus.TheVariants.{Done}
use Rattle.machine_state.specs.Rows.{HasStatus}
use Rattle.floor_laws.specs.rule.Fitting.{IsMade}
use Rattle.floor_laws.specs.table.Alone.{IsAloneAt}
use Rattle.floor_laws.specs.table.FloorOf.{turn_in}
use Rattle.floor_laws.specs.declared.table.view.View.{View}

-- If the seat is the only one and does not have the turn of task t, the task was not made.
abbrev pub IsNewIfAlone : Program → Bounds → View → ℕ → Type 0
IsNewIfAlone p lim v t = (st : State) → IsAloneAt p lim v st → turn_in v.turns t ≡ None → ¬ IsMade st t

-- If the seat is the only one and does not have the turn of task t, the task is not done.
abbrev pub IsUndoneIfAlone : Program → Bounds → View → ℕ → Type 0
IsUndoneIfAlone p lim v t = (st : State) → IsAloneAt p lim v st → turn_in v.turns t ≡ None → ¬ HasStatus st t Done
