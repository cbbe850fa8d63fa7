-- The frame that the next segment of a task starts from, after it was taken out of its row.
use Rattle.std.proofs.Common.{◌≡◌, ℕ, ℤ, zero, suc, List, [], ◌∷◌, Option, None, Some, refl, sym, ap, ◌∙◌}
use Rattle.std.specs.Prelude.{slice_get, slice_set}
use Rattle.seg_meaning.specs.declared.frame.Frame.{Frame}
use Rattle.seg_meaning.specs.Giving.{given}
use Rattle.machine_state.specs.declared.state.TaskRow.{TaskRow}
use Rattle.machine_state.specs.Moves.{value_of, awaited_value, ready_frame}
use Rattle.machine_state.specs.Rows.{row_awaited}

-- a row that stands in its place with another frame has its value as before
value_kept : (rows : List TaskRow) (t on : ℕ) (row new : TaskRow) → slice_get rows t ≡ Some row → new.value ≡ row.value
    → value_of (slice_get (slice_set rows t new) on) ≡ value_of (slice_get rows on)
value_kept [] t on row new here same = refl
value_kept (r ∷ rows) zero zero row new here same = let is : r ≡ row = cc in same ∙ ap (λ (x : TaskRow). x.value) (sym is)
value_kept (r ∷ rows) zero (suc on) row new here same = refl
value_kept (r ∷ rows) (suc t) zero row new here same = refl
value_kept (r ∷ rows) (suc t) (suc on) row new here same = value_kept rows t on row new here same

awaited_kept : (rows : List TaskRow) (t : ℕ) (on : Option ℕ) (row new : TaskRow) → slice_get rows t ≡ Some row → new.value ≡ row.value
    → awaited_value (slice_set rows t new) on ≡ awaited_value rows on
awaited_kept rows t None row new here same = refl
awaited_kept rows t (Some on) row new here same = value_kept rows t on row new here same

-- a frame that was taken out of its row, and then given the awaited value, is ready
pub taken_ready : (rows : List TaskRow) (t : ℕ) (row item : TaskRow) (frame left given_frame : Frame) (on : Option ℕ) (value : ℤ)
    → slice_get rows t ≡ Some row → slice_get rows t ≡ Some item → frame ≡ item.frame → on ≡ row_awaited frame.next
    → value ≡ awaited_value (slice_set rows t (record item { frame = left })) on → given_frame ≡ given frame value
    → given_frame ≡ ready_frame rows row.frame
taken_ready rows t row item frame left given_frame on value here found taken waits has gave =
    let is : item ≡ row = cc in
    let same : frame ≡ row.frame = taken ∙ ap (λ (r : TaskRow). r.frame) is in
    let kept = awaited_kept rows t on item (record item { frame = left }) found refl in
    let on_is : on ≡ row_awaited row.frame.next = waits ∙ ap (λ (f : Frame). row_awaited f.next) same in
    let value_is : value ≡ awaited_value rows (row_awaited row.frame.next) = has ∙ (kept ∙ ap (awaited_value rows) on_is) in
    gave ∙ (λ i. given (same i) (value_is i))
