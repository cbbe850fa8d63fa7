-- Tasks that meet a task.
use Rattle.std.specs.Prelude.{◌≢◌, ℕ}
use Rattle.machine_state.specs.declared.state.State.{State}
use Rattle.machine_state.specs.declared.state.TaskStatus.TheVariants.{Enabled}
use Rattle.machine_state.specs.Legal.{Interfere}
use Rattle.machine_state.specs.Rows.{HasStatus}

-- s meets t: it is another task, it is enabled, and its effects interfere with those of t
abbrev pub Meets : State → ℕ → ℕ → Type 0
Meets st s t = (s ≢ t) × HasStatus st s Enabled × Interfere st s t
