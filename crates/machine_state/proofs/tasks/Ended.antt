-- The end of a task whose frame was stored: its row is set once more.
use Rattle.std.proofs.Common.{◌≡◌, ℕ, ℤ, zero, suc, List, [], ◌∷◌, Option, Some, refl, ap, ◌∙◌}
use Rattle.std.specs.Prelude.{slice_get, slice_set}
use Rattle.twe_base.specs.declared.place.Place.{Place}
use Rattle.twe_base.specs.declared.fault.FaultKind.{FaultKind}
use Rattle.wait_graph.specs.declared.tasks.Link.{Link}
use Rattle.wait_graph.specs.Link.{with_done}
use Rattle.seg_meaning.specs.declared.frame.Frame.{Frame}
use Rattle.machine_state.specs.declared.state.FirstFault.{FirstFault}
use Rattle.machine_state.specs.declared.state.State.{State}
use Rattle.machine_state.specs.declared.state.TaskRow.{TaskRow}
use Rattle.machine_state.specs.declared.state.TaskStatus.TheVariants.{Done, Faulted}
use Rattle.machine_state.specs.Moves.{done_row, state_after_fault, faulted_row, state_after_finish, first_fault_of, going_row, state_after_storing}
use Rattle.machine_state.proofs.lists.Places.{set_same}

-- what is put in a place twice is there as the second time
pub set_again : {A : Type 0} (xs : List A) (t : ℕ) (x y : A) → slice_set (slice_set xs t x) t y ≡ slice_set xs t y
set_again [] t x y = refl
set_again (z ∷ xs) zero x y = refl
set_again (z ∷ xs) (suc t) x y = ap (λ (l : List _). z ∷ l) (set_again xs t x y)

-- its row after the frame was stored
row_is : (st came : State) (t : ℕ) (row item : TaskRow) (frame : Frame) → slice_get st.tasks t ≡ Some row
    → came ≡ state_after_storing st t frame (going_row row frame) → slice_get came.tasks t ≡ Some item → item ≡ going_row row frame
row_is st came t row item frame here comes found =
    let again = set_same st.tasks t row (going_row row frame) here in
    let same : slice_get came.tasks t ≡ slice_get (state_after_storing st t frame (going_row row frame)).tasks t = ap (λ (s : State). slice_get s.tasks t) comes in
    cc

-- the task is done with a value
pub finished_is : (st came : State) (t : ℕ) (row item new : TaskRow) (frame : Frame) (value : ℤ) (links : List Link)
    → slice_get st.tasks t ≡ Some row → came ≡ state_after_storing st t frame (going_row row frame) → slice_get came.tasks t ≡ Some item
    → new ≡ record item { status = Done; value = value } → links ≡ with_done came.links t
    → record came { tasks = slice_set came.tasks t new; links = links } ≡ state_after_finish st t row frame value
finished_is st came t row item new frame value links here comes found ends done =
    let item_is = row_is st came t row item frame here comes found in
    let new_is : new ≡ done_row row frame value = ends ∙ ap (λ (r : TaskRow). record r { status = Done; value = value }) item_is in
    let after : State = state_after_storing st t frame (going_row row frame) in
    let links_are : links ≡ with_done after.links t = done ∙ ap (λ (s : State). with_done s.links t) comes in
    (λ i. record (comes i) { tasks = slice_set (comes i).tasks t (new_is i); links = links_are i })
    ∙ (λ i. record after { tasks = set_again st.tasks t (going_row row frame) (done_row row frame value) i; links = with_done after.links t })

-- the task has met a fault
pub faulted_is : (st came : State) (t : ℕ) (row item : TaskRow) (frame : Frame) (kind : FaultKind) (place : Place) (first : Option FirstFault)
    → slice_get st.tasks t ≡ Some row → came ≡ state_after_storing st t frame (going_row row frame) → slice_get came.tasks t ≡ Some item
    → first ≡ first_fault_of came.first_fault t kind place
    → record came { tasks = slice_set came.tasks t (record item { status = Faulted }); first_fault = first } ≡ state_after_fault st t row frame kind place
faulted_is st came t row item frame kind place first here comes found notes =
    let item_is = row_is st came t row item frame here comes found in
    let after : State = state_after_storing st t frame (going_row row frame) in
    let first_is : first ≡ first_fault_of after.first_fault t kind place = notes ∙ ap (λ (s : State). first_fault_of s.first_fault t kind place) comes in
    (λ i. record (comes i) { tasks = slice_set (comes i).tasks t (record (item_is i) { status = Faulted }); first_fault = first_is i })
    ∙ (λ i. record after { tasks = set_again st.tasks t (going_row row frame) (faulted_row row frame) i; first_fault = first_fault_of st.first_fault t kind place })
