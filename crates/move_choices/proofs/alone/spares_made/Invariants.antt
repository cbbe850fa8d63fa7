use Rattle.std.proofs.Common.{◌≡◌, ◌≢◌, ◌<◌, ℕ, Some, slice_get}
use Rattle.effect_sets.specs.Interference.{SomeInterfere}
use Rattle.machine_state.specs.declared.state.TaskRow.{TaskRow}
use Rattle.machine_state.specs.declared.state.TaskStatus.TheVariants.{Made}
use Rattle.move_choices.proofs.alone.spares_made.Given as goal

-- those that were looked at
abbrev pub invariant-loop-u : goal.invariant-loop-u
invariant-loop-u l = (k : ℕ) (row : TaskRow) → k < l.u → k ≢ l.t → slice_get l.st.tasks k ≡ Some row → row.status ≡ Made → ¬ SomeInterfere row.effects.effects l.effects.effects
