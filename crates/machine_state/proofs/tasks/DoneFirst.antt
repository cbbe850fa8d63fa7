-- A task is done only after all that it spawned.
use Rattle.std.proofs.Common.{◌≡◌, ℕ, Bool, true, false, List, [], Some, refl, subst}
use Rattle.std.specs.List.{Contains}
use Rattle.twe_program.specs.Program.{Program}
use Rattle.twe_program.specs.WellFormed.{IsWellFormed}
use Rattle.machine_state.specs.declared.state.State.{State}
use Rattle.machine_state.specs.declared.state.TaskRow.{TaskRow}
use Rattle.machine_state.specs.declared.state.TaskStatus.TheVariants.{Done}
use Rattle.machine_state.specs.Rows.{IsRow}
use Rattle.machine_state.specs.Runs.{IsReachable}
use Rattle.machine_state.proofs.lists.Members.{contains_in}
use Rattle.machine_state.proofs.standing.ReachedStands.{reached_stands}

pub joined_done : (p : Program) (st : State) → IsWellFormed p → IsReachable p st → (t : ℕ) (row : TaskRow) → IsRow st t row → row.joined ≡ true → row.status ≡ Done
joined_done p st well reached t row here joined = ((reached_stands p reached.0 st well reached.1).rows t row here).joined joined

joined_by : (joined : Bool) → ¬ (joined ≡ false) → joined ≡ true
joined_by true open_still = refl
joined_by false open_still = absurd (open_still refl)

pub children_joined : (p : Program) (st : State) → IsWellFormed p → IsReachable p st → (t c : ℕ) (row child : TaskRow) → IsRow st t row → IsRow st c child
    → child.parent ≡ Some t → row.status ≡ Done → child.joined ≡ true
children_joined p st well reached t c row child here there parent done =
    let stands = reached_stands p reached.0 st well reached.1 in
    joined_by child.joined (λ unjoined.
    let listed : Contains row.out c = (stands.children t row here c).1 (record { row = child; there = there; parent = parent; unjoined = unjoined }) in
    let none : row.out ≡ [] = (stands.rows t row here).done done in
    contains_in [] c (subst (λ (out : List ℕ). Contains out c) none listed))
