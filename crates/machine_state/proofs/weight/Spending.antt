-- What the work of a task is after one of its segments, by how the segment stopped.
use Rattle.std.proofs.Common.{◌≡◌, ◌+◌, ◌<◌, ◌≤◌, ◌*◌, ℕ, Bool, List, [], ◌∷◌, length, Option, true, false, ap, ◌∙◌, arith, length-append}
use Rattle.seg_meaning.specs.declared.frame.Frame.{Frame}
use Rattle.seg_meaning.specs.declared.frame.Next.{Next}
use Rattle.seg_meaning.specs.declared.frame.Next.TheVariants.{Go, Get, Join, Closing}
use Rattle.machine_state.specs.segment_laws.Keeps.{IsClosing}
use Rattle.machine_state.specs.declared.state.TaskRow.{TaskRow}
use Rattle.machine_state.specs.declared.state.TaskStatus.{TaskStatus}
use Rattle.machine_state.specs.declared.state.TaskStatus.TheVariants.{Enabled}
use Rattle.machine_state.specs.Moves.{going_row, making_frame, out_with}
use Rattle.machine_state.proofs.weight.Weight.{children_left, weight_at, work_of, row_weight}

-- what is left of a row's work in a frame that a segment of it has left
pub record IsLeft (row : TaskRow) (frame : Frame) : Type 0 where
  pub enabled : row.status ≡ Enabled
  pub fuel : frame.fuel ≤ row.frame.fuel
  pub out : length frame.out.items ≤ children_left row.frame.next (length row.out)

pub enabled_weight : (row : TaskRow) (frame : Frame) → IsLeft row frame → row_weight row ≡ work_of row + 1
enabled_weight row frame left = ap (λ (s : TaskStatus). weight_at s (work_of row)) left.enabled

-- the weight of a row that goes on
going_weight : (row : TaskRow) (frame : Frame) (next : Next) → IsLeft row frame → frame.next ≡ next
    → row_weight (going_row row frame) ≡ 2 * frame.fuel + children_left next (length frame.out.items) + 1
going_weight row frame next left is =
    ap (λ (s : TaskStatus). weight_at s (2 * frame.fuel + children_left frame.next (length frame.out.items))) left.enabled
    ∙ ap (λ (n : Next). 2 * frame.fuel + children_left n (length frame.out.items) + 1) is

-- it has stopped at a getValue
pub got_weight : (row : TaskRow) (frame : Frame) (on : ℕ) (into : Option ℕ) → IsLeft row frame → frame.next ≡ Get on into → frame.fuel < row.frame.fuel
    → row_weight (going_row row frame) < row_weight row
got_weight row frame on into left is less =
    omega (arith, going_weight row frame (Get on into) left is, enabled_weight row frame left, left.out)

-- at a written join
pub join_weight : (row : TaskRow) (frame : Frame) (on : ℕ) (into : Option ℕ) → IsLeft row frame → frame.next ≡ Join on into → frame.fuel < row.frame.fuel
    → row_weight (going_row row frame) < row_weight row
join_weight row frame on into left is less =
    omega (arith, going_weight row frame (Join on into) left is, enabled_weight row frame left, left.out)

-- at a closing join
pub closing_weight : (row : TaskRow) (frame : Frame) (on : ℕ) → IsLeft row frame → IsClosing frame on
    → row_weight (going_row row frame) < row_weight row
closing_weight row frame on left closing =
    let some : length frame.out.items ≡ 1 + length closing.others = ap length closing.out ∙ omega arith in
    omega (arith, going_weight row frame (Closing on) left closing.next, enabled_weight row frame left, left.out, left.fuel)

length_out_with : (spawned : Bool) (child : ℕ) (out : List ℕ) → length (out_with spawned child out) ≤ length out + 1
length_out_with true child out = omega (arith, length-append out (child ∷ []))
length_out_with false child out = omega arith

-- and at the making of a task
pub made_weight : (row : TaskRow) (frame : Frame) (future number : ℕ) (spawned : Bool) → IsLeft row frame → frame.next ≡ Go → frame.fuel < row.frame.fuel
    → row_weight (going_row row (making_frame future spawned number frame)) < row_weight row
made_weight row frame future number spawned left is less =
    let maker = making_frame future spawned number frame in
    let weighs : row_weight (going_row row maker) ≡ 2 * frame.fuel + length (out_with spawned number frame.out.items) + 1 =
    ap (λ (s : TaskStatus). weight_at s (2 * frame.fuel + children_left frame.next (length (out_with spawned number frame.out.items)))) left.enabled
    ∙ ap (λ (n : Next). 2 * frame.fuel + children_left n (length (out_with spawned number frame.out.items)) + 1) is in
    omega (arith, weighs, length_out_with spawned number frame.out.items, enabled_weight row frame left, left.out)
