-- The parts in which rows and states are compared.
use Rattle.std.specs.Prelude.{◌≡◌, ℕ, List, Some, false, length, slice_get}
use Rattle.machine_state.specs.declared.state.State.{State}
use Rattle.machine_state.specs.declared.state.TaskRow.{TaskRow}
use Rattle.machine_state.specs.Rows.{is_done_row}
use Rattle.state_copies.specs.Frames.{unreserved}

-- the row with nothing reserved in its frame
abbrev pub unreserved_row : TaskRow → TaskRow
unreserved_row row = record row { frame = unreserved row.frame }

-- the rows are the same but for the frames, the unjoined children, which a frame has too, and the effects, which follow from the
-- declaration and the arguments
pub record HaveOneStanding (a b : TaskRow) : Type 0 where
  pub decl : a.decl ≡ b.decl
  pub parent : a.parent ≡ b.parent
  pub joined : a.joined ≡ b.joined
  pub status : a.status ≡ b.status
  pub value : a.value ≡ b.value
  pub args : a.args ≡ b.args

-- and unless the tasks are done, the frames are the same
pub record RowsMatch (a b : TaskRow) : Type 0 where
  pub standing : HaveOneStanding a b
  pub frames : is_done_row a ≡ false → unreserved a.frame ≡ unreserved b.frame

-- there are as many rows, and each matches the one at its place
pub record RowListsMatch (a b : List TaskRow) : Type 0 where
  pub count : length a ≡ length b
  pub each : (t : ℕ) (row other : TaskRow) → slice_get a t ≡ Some row → slice_get b t ≡ Some other → RowsMatch row other

-- the states have the same cells, the same printed numbers and the same count of makes
pub record HaveOneTally (a b : State) : Type 0 where
  pub asked : a.asked ≡ b.asked
  pub cells : a.cells ≡ b.cells
  pub prints : a.prints ≡ b.prints
