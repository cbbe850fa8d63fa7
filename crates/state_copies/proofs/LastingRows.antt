-- Rows without the frames of done tasks.
use Rattle.std.proofs.Common.{◌≡◌, ◌++◌, ℕ, zero, suc, Bool, true, false, List, [], ◌∷◌, Option, None, Some, map, refl, sym, ap, ◌∙◌}
use Rattle.std.specs.Prelude.{if◌then◌else◌, slice_get, slice_set}
use Rattle.std.proofs.lemmas.List.{map-append}
use Rattle.machine_state.specs.declared.state.TaskRow.{TaskRow}
use Rattle.machine_state.specs.FramesOut.{without_frame}
use Rattle.machine_state.specs.Moves.{joined_row, joined_rows, value_of}
use Rattle.machine_state.specs.Rows.{is_done_row, is_done_status}
use Rattle.machine_state.proofs.lists.Places.{map_set}
use Rattle.state_copies.specs.Lasting.{lasting_row}

-- One row.

pub row_if_done : (row : TaskRow) → is_done_row row ≡ true → lasting_row row ≡ without_frame row
row_if_done row is = ap (λ (b : Bool). if b then without_frame row else row) is

pub row_if_not : (row : TaskRow) → is_done_row row ≡ false → lasting_row row ≡ row
row_if_not row is = ap (λ (b : Bool). if b then without_frame row else row) is

status_by : (row : TaskRow) (b : Bool) → (if b then without_frame row else row).status ≡ row.status
status_by row true = refl
status_by row false = refl

pub status_lasts : (row : TaskRow) → (lasting_row row).status ≡ row.status
status_lasts row = status_by row (is_done_row row)

effects_by : (row : TaskRow) (b : Bool) → (if b then without_frame row else row).effects ≡ row.effects
effects_by row true = refl
effects_by row false = refl

pub effects_last : (row : TaskRow) → (lasting_row row).effects ≡ row.effects
effects_last row = effects_by row (is_done_row row)

value_by : (row : TaskRow) (b : Bool) → (if b then without_frame row else row).value ≡ row.value
value_by row true = refl
value_by row false = refl

pub value_lasts : (row : TaskRow) → (lasting_row row).value ≡ row.value
value_lasts row = value_by row (is_done_row row)

pub done_lasts : (row : TaskRow) → is_done_row (lasting_row row) ≡ is_done_row row
done_lasts row = ap is_done_status (status_lasts row)

once_by : (row : TaskRow) (b : Bool) → is_done_row row ≡ b → lasting_row (lasting_row row) ≡ lasting_row row
once_by row true is = ap lasting_row (row_if_done row is) ∙ (row_if_done (without_frame row) is ∙ sym (row_if_done row is))
once_by row false is = ap lasting_row (row_if_not row is)

-- the frame is taken out once
pub row_once : (row : TaskRow) → lasting_row (lasting_row row) ≡ lasting_row row
row_once row = once_by row (is_done_row row) refl

joined_by : (row : TaskRow) (b : Bool) → is_done_row row ≡ b → lasting_row (joined_row row) ≡ lasting_row (joined_row (lasting_row row))
joined_by row true is =
    row_if_done (joined_row row) is
    ∙ (sym (row_if_done (joined_row (without_frame row)) is)
    ∙ sym (ap (λ (r : TaskRow). lasting_row (joined_row r)) (row_if_done row is)))
joined_by row false is = sym (ap (λ (r : TaskRow). lasting_row (joined_row r)) (row_if_not row is))

row_joined : (row : TaskRow) → lasting_row (joined_row row) ≡ lasting_row (joined_row (lasting_row row))
row_joined row = joined_by row (is_done_row row) refl

-- All rows.

pub rows_once : (rows : List TaskRow) → map lasting_row rows ≡ map lasting_row (map lasting_row rows)
rows_once [] = refl
rows_once (row ∷ rows) = λ i. sym (row_once row) i ∷ rows_once rows i

-- one is replaced
pub set_once : (rows : List TaskRow) (t : ℕ) (new : TaskRow) → map lasting_row (slice_set rows t new) ≡ map lasting_row (slice_set (map lasting_row rows) t new)
set_once rows t new =
    map_set lasting_row rows t new
    ∙ (ap (λ (l : List TaskRow). slice_set l t (lasting_row new)) (rows_once rows)
    ∙ sym (map_set lasting_row (map lasting_row rows) t new))

-- one is added after one was replaced
pub added_once : (rows : List TaskRow) (t : ℕ) (new last : TaskRow)
    → map lasting_row (slice_set rows t new ++ last ∷ []) ≡ map lasting_row (slice_set (map lasting_row rows) t new ++ last ∷ [])
added_once rows t new last =
    map-append lasting_row (slice_set rows t new) (last ∷ [])
    ∙ (ap (λ (l : List TaskRow). l ++ lasting_row last ∷ []) (set_once rows t new)
    ∙ sym (map-append lasting_row (slice_set (map lasting_row rows) t new) (last ∷ [])))

joined_after : (row : TaskRow) (rows : List TaskRow) (child : ℕ) (found : Option TaskRow) → joined_rows (row ∷ rows) (suc child) found ≡ row ∷ joined_rows rows child found
joined_after row rows child None = refl
joined_after row rows child (Some r) = refl

-- a child is joined
pub joined_once : (rows : List TaskRow) (child : ℕ)
    → map lasting_row (joined_rows rows child (slice_get rows child)) ≡ map lasting_row (joined_rows (map lasting_row rows) child (slice_get (map lasting_row rows) child))
joined_once [] child = refl
joined_once (row ∷ rows) zero = λ i. row_joined row i ∷ rows_once rows i
joined_once (row ∷ rows) (suc child) =
    ap (map lasting_row) (joined_after row rows child (slice_get rows child))
    ∙ ((λ i. sym (row_once row) i ∷ joined_once rows child i)
    ∙ sym (ap (map lasting_row) (joined_after (lasting_row row) (map lasting_row rows) child (slice_get (map lasting_row rows) child))))

-- the value of a task
pub value_once : (rows : List TaskRow) (on : ℕ) → value_of (slice_get rows on) ≡ value_of (slice_get (map lasting_row rows) on)
value_once [] on = refl
value_once (row ∷ rows) zero = sym (value_lasts row)
value_once (row ∷ rows) (suc on) = value_once rows on
