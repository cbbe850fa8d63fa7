-- What is used of the states that runs come to.
use Rattle.std.proofs.Common.{◌≡◌, ℕ, None}
use Rattle.twe_program.specs.Program.{Program}
use Rattle.twe_program.specs.WellFormed.{IsWellFormed}
use Rattle.machine_state.specs.declared.state.State.{State}
use Rattle.machine_state.specs.declared.state.TaskStatus.TheVariants.{Faulted}
use Rattle.machine_state.specs.Rows.{HasStatus}
use Rattle.machine_state.specs.Runs.{IsReachable}
use Rattle.machine_state.proofs.standing.ReachedStands.{reached_stands}

-- without a first fault no task has met one
pub no_fault : (p : Program) (st : State) → IsWellFormed p → IsReachable p st → st.first_fault ≡ None → (t : ℕ) → ¬ HasStatus st t Faulted
no_fault p st well reached none = (reached_stands p reached.0 st well reached.1).no_fault none
