-- The test that each row is done means that it is.
use Rattle.std.proofs.Common.{◌≡◌, ◌&&◌, ℕ, zero, suc, Bool, true, false, List, [], ◌∷◌, Some, refl, ap, ◌∙◌, subst}
use Rattle.std.specs.Prelude.{slice_get}
use Rattle.std.specs.List.{list_all}
use Rattle.machine_state.specs.declared.state.TaskRow.{TaskRow}
use Rattle.machine_state.specs.declared.state.TaskStatus.{TaskStatus}
use Rattle.machine_state.specs.declared.state.TaskStatus.TheVariants.{Made, Enabled, Done, Faulted}
use Rattle.machine_state.specs.Rows.{is_done_status, is_done_row}

is_done_is : (s : TaskStatus) → is_done_status s ≡ true → s ≡ Done
is_done_is Made e = absurd (cc)
is_done_is Enabled e = absurd (cc)
is_done_is Done e = refl
is_done_is Faulted e = absurd (cc)

both : (a b : Bool) → (a && b) ≡ true → (a ≡ true) × (b ≡ true)
both true b e = (refl, e)
both false b e = absurd (cc)

-- each task is done if the test says so
pub all_are_done : (rows : List TaskRow) → list_all is_done_row rows ≡ true → (t : ℕ) (row : TaskRow) → slice_get rows t ≡ Some row → row.status ≡ Done
all_are_done [] all t row here = absurd (cc)
all_are_done (r ∷ rows) all zero row here =
    let is : r ≡ row = cc in
    subst (λ (x : TaskRow). x.status ≡ Done) is (is_done_is r.status (both (is_done_row r) (list_all is_done_row rows) all).0)
all_are_done (r ∷ rows) all (suc t) row here = all_are_done rows (both (is_done_row r) (list_all is_done_row rows) all).1 t row here

-- and the test says so if each task is done
pub all_done_told : (rows : List TaskRow) → ((t : ℕ) (row : TaskRow) → slice_get rows t ≡ Some row → row.status ≡ Done) → list_all is_done_row rows ≡ true
all_done_told [] done = refl
all_done_told (r ∷ rows) done =
    ap (λ (s : TaskStatus). is_done_status s && list_all is_done_row rows) (done 0 r refl) ∙ all_done_told rows (λ t row here. done (suc t) row here)
