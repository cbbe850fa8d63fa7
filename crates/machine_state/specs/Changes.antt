-- What a legal move changes, and what it leaves alone.
use Rattle.std.specs.Prelude.{◌≡◌, ◌≢◌, ◌+◌, ◌++◌, ◌<◌, ℕ, ℤ, true, Some, length, Option}
use Rattle.seg_journal.specs.declared.journal.End.{End}
use Rattle.seg_journal.specs.declared.journal.End.TheVariants as ends
use Rattle.seg_journal.specs.declared.moves.Kind.{Kind}
use Rattle.seg_journal.specs.declared.moves.Kind.TheVariants.{Admit, Run}
use Rattle.seg_journal.specs.declared.moves.Move.{Move}
use Rattle.wait_graph.specs.Link.{link_of}
use Rattle.wait_graph.specs.Waiting.{SpawnedBy}
use Rattle.twe_program.specs.Program.{Program}
use Rattle.seg_meaning.specs.declared.stop.Stop.{Stop}
use Rattle.seg_meaning.specs.declared.stop.Stop.TheVariants as stops
use Rattle.seg_meaning.specs.Segment.{Stopped, segment}
use Rattle.machine_state.specs.declared.state.FirstFault.{FirstFault}
use Rattle.machine_state.specs.declared.state.State.{State}
use Rattle.machine_state.specs.declared.state.TaskRow.{TaskRow}
use Rattle.machine_state.specs.declared.state.TaskStatus.TheVariants.{Done}
use Rattle.machine_state.specs.Moves.{first_fault_of, ready_frame}
use Rattle.machine_state.specs.Rows.{IsRow}

-- The move takes the join of c: it runs a task that has waited for c, and c is an unjoined child of that task.
pub record TakesJoin (st : State) (mv : Move) (c : ℕ) : Type 0 where
  pub runs : mv.kind ≡ Run
  pub waited : (link_of st.links mv.task).waits ≡ Some c
  pub child : SpawnedBy st.links c mv.task

-- the segment that the task of this row runs next
abbrev pub next_segment : Program → State → TaskRow → Stopped
next_segment p st row = segment p (ready_frame st.tasks row.frame) st.cells

-- how many tasks a segment with this stop has asked for
abbrev pub asked_by : Stop → ℕ
asked_by (stops.Make child args effects spawned future place) = 1
asked_by _ = 0

-- how many tasks a move with this end has made
abbrev pub made_by : End → ℕ
made_by (ends.Made child) = 1
made_by _ = 0

-- the first fault of a run after a move of t with this end
abbrev pub fault_after : Option FirstFault → ℕ → End → Option FirstFault
fault_after first t (ends.Fault kind place) = first_fault_of first t kind place
fault_after first t _ = first

-- How a segment changes the cells, the printed numbers and the count of makes: the cells are those that it leaves,
-- the numbers that it prints come after the others, and one more task is asked for if it stops at a make.
pub record ChangesAsSegment (st after : State) (left : Stopped) : Type 0 where
  pub cells : after.cells ≡ left.cells
  pub prints : after.prints ≡ st.prints ++ left.frame.prints
  pub asked : after.asked ≡ st.asked + asked_by left.stop

-- an admission changes none of the three
pub record ChangesNoResult (st after : State) : Type 0 where
  pub cells : after.cells ≡ st.cells
  pub prints : after.prints ≡ st.prints
  pub asked : after.asked ≡ st.asked

-- what a move of t changes of the three, by its kind: an admission nothing, and a run what the next segment of t does
abbrev pub ResultsAfter : Program → State → State → Kind → ℕ → Type 0
ResultsAfter p st after Admit t = ChangesNoResult st after
ResultsAfter p st after Run t = (row : TaskRow) → IsRow st t row → ChangesAsSegment st after (next_segment p st row)

-- task u of this state has the declaration, the arguments, the effects and the parent of this row
pub record IsTaskOf (st : State) (u : ℕ) (row : TaskRow) : Type 0 where
  pub now : TaskRow
  pub there : IsRow st u now
  pub decl : now.decl ≡ row.decl
  pub args : now.args ≡ row.args
  pub effects : now.effects ≡ row.effects
  pub parent : now.parent ≡ row.parent

-- What a legal move with this end leaves alone. It changes the row and the links of its own task. Of the others it
-- marks a child as joined if it takes its join, and it adds the row and the links of a task that it makes. The rest
-- of the state changes as its segment and its end say.
pub record LeavesAlone (p : Program) (st after : State) (mv : Move) (end : End) : Type 0 where
  -- its own task keeps its declaration, its arguments, its effects and its parent
  pub own : (row : TaskRow) → IsRow st mv.task row → IsTaskOf after mv.task row
  -- each other task keeps its row and its links, unless the move takes its join
  pub rows : (u : ℕ) (row : TaskRow) → u ≢ mv.task → ¬ TakesJoin st mv u → IsRow st u row → IsRow after u row
  pub links : (u : ℕ) → u < length st.tasks → u ≢ mv.task → ¬ TakesJoin st mv u → link_of after.links u ≡ link_of st.links u
  -- a child whose join it takes is marked as joined, and keeps all else
  pub joined_row : (c : ℕ) (row : TaskRow) → TakesJoin st mv c → IsRow st c row → IsRow after c (record row { joined = true })
  pub joined_link : (c : ℕ) → TakesJoin st mv c → link_of after.links c ≡ record (link_of st.links c) { joined = true }
  -- a task that it makes comes after the others
  pub tasks : length after.tasks ≡ length st.tasks + made_by end
  pub made : (child : ℕ) → end ≡ ends.Made child → child ≡ length st.tasks
  pub as_many_links : length after.links ≡ length after.tasks
  pub results : ResultsAfter p st after mv.kind mv.task
  pub first_fault : after.first_fault ≡ fault_after st.first_fault mv.task end

-- task u is done with this value
pub record IsDoneWith (st : State) (u : ℕ) (value : ℤ) : Type 0 where
  pub row : TaskRow
  pub there : IsRow st u row
  pub done : row.status ≡ Done
  pub value_is : row.value ≡ value
