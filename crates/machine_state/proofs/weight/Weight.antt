-- The weight of a state, which bounds how many moves a run still takes: each move lowers it. A row weighs as much as its fuel
-- and its unjoined children allow, and each task that may still be made weighs as much as all of its fuel.
use Rattle.std.proofs.Common.{◌≡◌, ◌<◌, ◌+◌, ◌*◌, ◌-◌, ◌++◌, ℕ, zero, suc, List, [], ◌∷◌, length, Some, ap, arith}
use Rattle.std.specs.Prelude.{slice_get, slice_set}
use Rattle.twe_base.specs.Limits.{Bounds}
use Rattle.seg_meaning.specs.declared.frame.Next.{Next}
use Rattle.seg_meaning.specs.declared.frame.Next.TheVariants.{Go, Get, Join, Closing, Ended}
use Rattle.machine_state.specs.declared.state.State.{State}
use Rattle.machine_state.specs.declared.state.TaskRow.{TaskRow}
use Rattle.machine_state.specs.declared.state.TaskStatus.{TaskStatus}
use Rattle.machine_state.specs.declared.state.TaskStatus.TheVariants.{Made, Enabled, Done, Faulted}

-- how many children are still to be joined: a closing join has its child counted off already
abbrev pub children_left : Next → ℕ → ℕ
children_left Go out = out
children_left (Get on into) out = out
children_left (Join on into) out = out
children_left (Closing on) out = out - 1
children_left Ended out = out

-- a task that has ended does nothing more
abbrev pub weight_at : TaskStatus → ℕ → ℕ
weight_at Made work = work + 2
weight_at Enabled work = work + 1
weight_at Done work = 0
weight_at Faulted work = 0

abbrev pub work_of : TaskRow → ℕ
work_of row = 2 * row.frame.fuel + children_left row.frame.next (length row.out)

abbrev pub row_weight : TaskRow → ℕ
row_weight row = weight_at row.status (work_of row)

abbrev pub rows_weight : List TaskRow → ℕ
rows_weight [] = 0
rows_weight (row ∷ rows) = row_weight row + rows_weight rows

-- the weight of this number of tasks that may still be made
abbrev pub room_weight : Bounds → ℕ → ℕ
room_weight lim room = room * (2 * lim.fuel + 2)

abbrev pub weight : Bounds → State → ℕ
weight lim st = rows_weight st.tasks + room_weight lim (lim.tasks - length st.tasks)

-- a row that takes the place of another
pub set_weight : (rows : List TaskRow) (t : ℕ) (row new : TaskRow) → slice_get rows t ≡ Some row
    → rows_weight (slice_set rows t new) + row_weight row ≡ rows_weight rows + row_weight new
set_weight [] t row new found = absurd (cc)
set_weight (r ∷ rows) zero row new found =
    let same : r ≡ row = cc in
    let e = ap (λ (x : TaskRow). row_weight x) same in
    omega (arith, e)
set_weight (r ∷ rows) (suc t) row new found =
    let others = set_weight rows t row new found in
    omega (arith, others)

-- a row that is added
pub added_weight : (rows : List TaskRow) (new : TaskRow) → rows_weight (rows ++ new ∷ []) ≡ rows_weight rows + row_weight new
added_weight [] new = omega arith
added_weight (r ∷ rows) new = let others = added_weight rows new in omega (arith, others)

-- one task less may be made
pub less_room : (lim : Bounds) (room : ℕ) → 0 < room → room_weight lim room ≡ room_weight lim (room - 1) + (2 * lim.fuel + 2)
less_room lim zero some = absurd (omega arith)
less_room lim (suc room) some = let e : suc room - 1 ≡ room = omega arith in rw e (omega arith)
