-- What holds in each state that a run of a well-formed program comes to, said of its rows and of the state.
use Rattle.std.specs.Prelude.{◌≡◌, ◌≤◌, ◌<◌, ◌+◌, ◌↔◌, ℕ, Bool, true, false, List, [], length, Option, None, Some, slice_get}
use Rattle.std.specs.List.{Contains, count_by}
use Rattle.std.specs.Option.{ForSome}
use Rattle.twe_base.specs.Limits.{Bounds}
use Rattle.twe_program.specs.Fitting.{TakesArguments}
use Rattle.twe_program.specs.Numbering.{Declared}
use Rattle.twe_program.specs.Program.{Program, cell_count}
use Rattle.seg_meaning.specs.declared.frame.Frame.{Frame}
use Rattle.seg_meaning.specs.declared.frame.Next.TheVariants.{Get, Join, Closing, Ended}
use Rattle.seg_meaning.specs.Entry.{effects_at, entry_frame}
use Rattle.machine_state.specs.segment_laws.Keeps.{IsClosing}
use Rattle.machine_state.specs.segment_laws.Ready.{IsReady, futures_at}
use Rattle.machine_state.specs.declared.state.State.{State}
use Rattle.machine_state.specs.declared.state.TaskRow.{TaskRow}
use Rattle.machine_state.specs.declared.state.TaskStatus.{TaskStatus}
use Rattle.machine_state.specs.declared.state.TaskStatus.TheVariants.{Made, Enabled, Done, Faulted}
use Rattle.machine_state.specs.Moves.{new_row, parent_of}
use Rattle.machine_state.specs.Rows.{IsRow, HasStatus, LinksAgree}
use Rattle.machine_state.proofs.lists.Members.{EachOnce}

-- t spawned c, and has not joined it
pub record IsChild (rows : List TaskRow) (t c : ℕ) : Type 0 where
  pub row : TaskRow
  pub there : slice_get rows c ≡ Some row
  pub parent : row.parent ≡ Some t
  pub unjoined : row.joined ≡ false

-- the task u was made after t, and has this parent
pub record IsMadeAfter (rows : List TaskRow) (t : ℕ) (parent : Option ℕ) (u : ℕ) : Type 0 where
  pub row : TaskRow
  pub there : slice_get rows u ≡ Some row
  pub above : t < u
  pub below : u < length rows
  pub parent_is : row.parent ≡ parent

-- the future f of a task t of this declaration stands for u: u is one of the tasks that the body makes into f, and a
-- child of t if a `spawn` makes it
pub record StandsFor (p : Program) (rows : List TaskRow) (t decl f u : ℕ) : Type 0 where
  pub declared : Declared
  pub found : slice_get (futures_at p decl) f ≡ Some declared
  pub made : IsMadeAfter rows t (parent_of t declared.spawned) u
  pub task : made.row.decl ≡ declared.task

-- The frame of task t: a future stands for one task that was made after t, and no two stand for the same one; a task
-- that is waited for was made after t too, a joined one as its child; and of a frame that has ended nothing is left.
pub record FrameStands (p : Program) (lim : Bounds) (rows : List TaskRow) (t : ℕ) (frame : Frame) : Type 0 where
  pub number : frame.task ≡ t
  pub fuel : frame.fuel ≤ lim.fuel
  pub futures : (f u : ℕ) → slice_get frame.futures f ≡ Some (Some u) → StandsFor p rows t frame.decl f u
  pub apart : (f g u : ℕ) → slice_get frame.futures f ≡ Some (Some u) → slice_get frame.futures g ≡ Some (Some u) → f ≡ g
  pub once : EachOnce frame.out.items
  pub getting : (on : ℕ) (into : Option ℕ) → frame.next ≡ Get on into → IsMadeAfter rows t None on
  pub joining : (on : ℕ) (into : Option ℕ) → frame.next ≡ Join on into → IsMadeAfter rows t (Some t) on
  pub closing : (on : ℕ) → frame.next ≡ Closing on → IsClosing frame on
  pub awaited_child : (on : ℕ) → frame.next ≡ Closing on → IsMadeAfter rows t (Some t) on
  pub ended : frame.next ≡ Ended → frame.body ≡ None

-- the task has ended, with a value or with a fault
abbrev pub IsOver : TaskStatus → Type 0
IsOver Made = ⊥
IsOver Enabled = ⊥
IsOver Done = Unit {0}
IsOver Faulted = Unit {0}

-- The row of task t. One that is not admitted yet is as it was made, and one that was joined is done.
pub record RowStands (p : Program) (lim : Bounds) (rows : List TaskRow) (t : ℕ) (row : TaskRow) : Type 0 where
  pub frame : FrameStands p lim rows t row.frame
  pub ready : IsReady p row.frame
  pub decl : row.frame.decl ≡ row.decl
  pub out : row.out ≡ row.frame.out.items
  pub prints : row.frame.prints ≡ []
  pub count : TakesArguments (slice_get p.tasks row.decl) (length row.args)
  pub effects : row.effects ≡ effects_at p row.decl row.args
  pub parent : ForSome row.parent (λ q. q < t)
  pub made : row.status ≡ Made → row ≡ new_row lim t None (entry_frame p row.decl row.args) row.args row.effects
  pub over : IsOver row.status → row.frame.next ≡ Ended
  pub ended : row.frame.next ≡ Ended → IsOver row.status
  pub done : row.status ≡ Done → row.out ≡ []
  pub joined : row.joined ≡ true → row.status ≡ Done

abbrev pub is_faulted_status : TaskStatus → Bool
is_faulted_status Faulted = true
is_faulted_status Made = false
is_faulted_status Enabled = false
is_faulted_status Done = false

abbrev pub is_faulted_row : TaskRow → Bool
is_faulted_row row = is_faulted_status row.status

-- The state: its rows stand, its links are those that the rows say, there are as many cells as the program has, the
-- unjoined children of each task are those that its row lists, and tasks are numbered as they were made. Who asks for a
-- task beyond the limit has a fault, so that few more were asked for than were made.
pub record Stands (p : Program) (lim : Bounds) (st : State) : Type 0 where
  pub rows : (t : ℕ) (row : TaskRow) → IsRow st t row → RowStands p lim st.tasks t row
  pub links : LinksAgree st
  pub cells : length st.cells ≡ cell_count p
  pub children : (t : ℕ) (row : TaskRow) → IsRow st t row → (c : ℕ) → Contains row.out c ↔ IsChild st.tasks t c
  pub some : 0 < length st.tasks
  pub limit : 1 ≤ lim.tasks → length st.tasks ≤ lim.tasks
  pub number : st.asked + 1 < lim.tasks → st.asked + 1 ≡ length st.tasks
  pub asked : st.asked + 1 ≤ length st.tasks + count_by is_faulted_row st.tasks
  pub fault : ForSome st.first_fault (λ fault. HasStatus st fault.task Faulted)
  pub no_fault : st.first_fault ≡ None → (t : ℕ) → ¬ HasStatus st t Faulted
