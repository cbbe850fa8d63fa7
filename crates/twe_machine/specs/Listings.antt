-- The enabled tasks of a run by the places of their effects, and the state that they belong to.
use Rattle.std.specs.Prelude.{◌≡◌, ℕ, List, Some, length, slice_get}
use Rattle.seg_journal.specs.declared.moves.Move.{Move}
use Rattle.twe_base.specs.Limits.{Bounds}
use Rattle.effect_sets.specs.declared.effects.Effect.{Effect}
use Rattle.twe_program.specs.Program.{Program}
use Rattle.twe_program.specs.WellFormed.{IsWellFormed}
use Rattle.twe_machine.specs.declared.enabled_tasks.EnabledTasks.{EnabledTasks}
use Rattle.machine_state.specs.declared.state.State.{State}
use Rattle.machine_state.specs.declared.state.TaskRow.{TaskRow}
use Rattle.machine_state.specs.declared.state.TaskStatus.TheVariants.{Enabled}
use Rattle.twe_machine.specs.Books.{AreDecided, IsEntered}
use Rattle.machine_state.specs.Legal.{MayMove}
use Rattle.machine_state.specs.Moves.{move_result}
use Rattle.machine_state.specs.Rows.{IsRow}
use Rattle.machine_state.specs.Runs.{IsReached}

-- e is one of these effects
abbrev pub HasEffect : List Effect → Effect → Type 0
HasEffect effects e = (k : ℕ) × (slice_get effects k ≡ Some e)

-- each effect of each task that is enabled in the state was entered, and who decides for others does so in the state
pub record IsListing (st : State) (enabled : EnabledTasks) : Type 0 where
  pub all : (s : ℕ) (row : TaskRow) (e : Effect) → IsRow st s row → row.status ≡ Enabled
      → HasEffect row.effects.effects e → IsEntered enabled s e
  pub decided : AreDecided st.links enabled

-- the state comes by this legal move from a reached state with so many tasks, to which the enabled tasks belonged
pub record WasListing (after : State) (mv : Move) (before : ℕ) (enabled : EnabledTasks) : Type 0 where
  pub p : Program
  pub lim : Bounds
  pub st : State
  pub well : IsWellFormed p
  pub reached : IsReached p lim st
  pub legal : MayMove st mv
  pub is : after ≡ (move_result p lim st mv).0
  pub count : before ≡ length st.tasks
  pub listing : IsListing st enabled
