-- What running a draft gives, and when it fits a state.
use Rattle.std.specs.Prelude.{◌≡◌, ◌⊎◌, ℕ, ℤ, List, length, Some, slice_get}
use Rattle.std.specs.List.{All}
use Rattle.twe_program.specs.Program.{Program, cell_count}
use Rattle.seg_meaning.specs.declared.frame.Frame.{Frame}
use Rattle.seg_meaning.specs.Segment.{segment}
use Rattle.machine_state.specs.declared.state.State.{State}
use Rattle.machine_state.specs.declared.state.TaskRow.{TaskRow}
use Rattle.machine_state.specs.declared.state.TaskStatus.TheVariants.{Made}
use Rattle.machine_state.specs.Legal.{MayRun}
use Rattle.machine_state.specs.Moves.{ready_frame}
use Rattle.machine_state.specs.Rows.{HasStatus, IsRow}
use Rattle.state_copies.specs.Frames.{unreserved}
use Rattle.opt_engine.specs.declared.touch.CellValue.{CellValue}
use Rattle.opt_engine.specs.declared.drafts.Draft.{Draft}
use Rattle.opt_engine.specs.declared.drafts.Drafted.{Drafted}
use Rattle.opt_engine.specs.Touches.{first_reads, last_writes}

-- the draft is one of the program: it has a value for each cell, and nothing is reserved in its frame
pub record IsDraftOf (p : Program) (draft : Draft) : Type 0 where
  pub cells : length draft.cells ≡ cell_count p
  pub plain : draft.frame ≡ unreserved draft.frame

-- what the segment of a draft gives
abbrev pub drafted : Program → Draft → Drafted
drafted p draft =
    let left = segment p draft.frame draft.cells in record {
      task = draft.task;
      before = draft.frame;
      after = left.frame;
      reads = first_reads left.accesses;
      writes = last_writes left.accesses;
      stop = left.stop;
    }

-- some draft of the program was run, and gave this
pub record IsDraftedOf (p : Program) (d : Drafted) : Type 0 where
  pub draft : Draft
  pub is_draft : IsDraftOf p draft
  pub gave : d ≡ drafted p draft

-- the task is ready: it waits for its admission, or it is enabled and waits for nobody
abbrev pub DraftIsReady : State → ℕ → Type 0
DraftIsReady st t = HasStatus st t Made ⊎ MayRun st t

-- the next segment of the task begins with this frame; if the task has waited, the frame has the awaited value
abbrev pub AccessesBeginWith : State → ℕ → Frame → Type 0
AccessesBeginWith st t frame = (row : TaskRow) × IsRow st t row × (frame ≡ ready_frame st.tasks row.frame)

-- the draft is of the segment that its task runs next
abbrev pub IsNext : State → Drafted → Type 0
IsNext st d = DraftIsReady st d.task × AccessesBeginWith st d.task d.before

-- the cell has the value that was read
abbrev pub StandsIn : List ℤ → CellValue → Type 0
StandsIn cells read = slice_get cells read.cell ≡ Some read.value

-- the draft is of the segment that its task runs next, and what it has read still stands
pub record Fits (st : State) (d : Drafted) : Type 0 where
  pub is_next : IsNext st d
  pub stands : All (StandsIn st.cells) d.reads
