-- The rows after the join of a child: no row is heavier or lighter.
use Rattle.std.proofs.Common.{◌≡◌, ◌+◌, ℕ, List, length, Option, Some, None, refl, arith, length-set}
use Rattle.std.specs.Prelude.{slice_get, slice_set}
use Rattle.machine_state.specs.declared.state.State.{State}
use Rattle.machine_state.specs.declared.state.TaskRow.{TaskRow}
use Rattle.machine_state.specs.Moves.{state_after_join, joined_row, joined_rows}
use Rattle.machine_state.proofs.lists.RowNumbers.{joined_there}
use Rattle.machine_state.proofs.weight.Weight.{row_weight, rows_weight, set_weight}

-- a row takes the place of one that was there before the join
after_join : (rows : List TaskRow) (c t : ℕ) (child : Option TaskRow) (row new : TaskRow) → slice_get rows c ≡ child → slice_get rows t ≡ Some row
    → rows_weight (slice_set (joined_rows rows c child) t new) + row_weight row ≡ rows_weight rows + row_weight new
after_join rows c t None row new there found = set_weight rows t row new found
after_join rows c t (Some r) row new there found =
    let x = joined_there row_weight (λ (x : TaskRow). refl) rows c t (Some r) row there found in
    let first = set_weight rows c r (joined_row r) there in
    let second = set_weight (slice_set rows c (joined_row r)) t x.0 new x.1 in
    let same = x.2 in
    omega (arith, first, second, same)

-- the same in a state
pub joined_weight : (st : State) (child : Option ℕ) (t : ℕ) (row new : TaskRow) → slice_get st.tasks t ≡ Some row
    → rows_weight (slice_set (state_after_join st child).tasks t new) + row_weight row ≡ rows_weight st.tasks + row_weight new
joined_weight st None t row new found = set_weight st.tasks t row new found
joined_weight st (Some c) t row new found = after_join st.tasks c t (slice_get st.tasks c) row new refl found

length_joined_rows : (rows : List TaskRow) (c : ℕ) (child : Option TaskRow) → length (joined_rows rows c child) ≡ length rows
length_joined_rows rows c None = refl
length_joined_rows rows c (Some r) = length-set rows c (joined_row r)

-- and there are as many
pub length_joined : (st : State) (child : Option ℕ) → length (state_after_join st child).tasks ≡ length st.tasks
length_joined st None = refl
length_joined st (Some c) = length_joined_rows st.tasks c (slice_get st.tasks c)

-- as many tasks were asked for
pub asked_joined : (st : State) (child : Option ℕ) → (state_after_join st child).asked ≡ st.asked
asked_joined st None = refl
asked_joined st (Some c) = refl
