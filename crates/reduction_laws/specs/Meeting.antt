-- When nothing that is there or may come is held back by the admission of a task.
use Rattle.std.specs.Prelude.{◌≢◌, ℕ, ℤ, List, length, slice_get}
use Rattle.effect_sets.specs.Interference.{SomeInterfere}
use Rattle.twe_program.specs.Fitting.{TakesArguments}
use Rattle.twe_program.specs.Program.{Program}
use Rattle.seg_meaning.specs.Entry.{effects_at}
use Rattle.machine_state.specs.declared.state.State.{State}
use Rattle.machine_state.specs.declared.state.TaskRow.{TaskRow}
use Rattle.machine_state.specs.declared.state.TaskStatus.TheVariants.{Done, Made}
use Rattle.machine_state.specs.Legal.{Interfere}
use Rattle.machine_state.specs.Rows.{HasStatus, IsRow}
use Rattle.reduction_laws.specs.Makes.{MayLeadTo}

-- Nothing meets task t: no other task that waits for its admission interferes with it, nor does any declaration that another task
-- which isn't done may lead to, whatever its arguments are.
pub record NothingMeets (p : Program) (st : State) (t : ℕ) : Type 0 where
  pub made : (u : ℕ) → u ≢ t → HasStatus st u Made → ¬ Interfere st u t
  pub later : (u : ℕ) (maker row : TaskRow) → u ≢ t → IsRow st u maker → maker.status ≢ Done → IsRow st t row
      → (decl : ℕ) → MayLeadTo p maker.decl decl
      → (args : List ℤ) → TakesArguments (slice_get p.tasks decl) (length args)
      → ¬ SomeInterfere (effects_at p decl args).effects row.effects.effects
