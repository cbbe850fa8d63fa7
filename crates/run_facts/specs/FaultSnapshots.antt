-- What was there when the first fault of a run was met.
use Rattle.std.specs.Prelude.{◌≡◌, ◌++◌, ℤ, false, List, [], ◌∷◌, Option, None, Some, slice_get}
use Rattle.std.specs.List.{All}
use Rattle.twe_base.specs.declared.fault.FaultKind.{FaultKind}
use Rattle.twe_base.specs.declared.fault.FaultKind.TheVariants.{TaskLimit}
use Rattle.twe_base.specs.Limits.{Bounds}
use Rattle.seg_journal.specs.declared.journal.End.TheVariants as ends
use Rattle.seg_journal.specs.declared.journal.Entry.{Entry}
use Rattle.seg_journal.specs.declared.moves.Kind.TheVariants.{Run}
use Rattle.twe_program.specs.Program.{Program}
use Rattle.seg_meaning.specs.declared.fault.FaultCause.{FaultCause}
use Rattle.seg_meaning.specs.declared.frame.Frame.{Frame}
use Rattle.seg_meaning.specs.declared.frame.OpenBody.{OpenBody}
use Rattle.seg_meaning.specs.Segment.{flow_of, segment}
use Rattle.seg_meaning.specs.Causes.{fault_kind}
use Rattle.seg_exec.specs.Snapshots.{snapshot_of}
use Rattle.seg_exec.specs.declared.snapshot.FaultSnapshot.{FaultSnapshot}
use Rattle.machine_state.specs.declared.state.FirstFault.{FirstFault}
use Rattle.machine_state.specs.declared.state.State.{State}
use Rattle.machine_state.specs.declared.state.TaskRow.{TaskRow}
use Rattle.machine_state.specs.Moves.{ready_frame}
use Rattle.machine_state.specs.Runs.{is_fault, state_after}

-- the entry of the move that met this fault
abbrev pub faulty_entry : FirstFault → Entry
faulty_entry fault = record { mv = record { kind = Run; task = fault.task }; end = ends.Fault fault.kind fault.place }

-- what is there at a task too many, which is refused between two segments of a task whose body is open: its variables; no
-- method is active then
abbrev pub snapshot_between : List ℤ → Option OpenBody → Option FaultSnapshot
snapshot_between cells None = None
snapshot_between cells (Some body) = Some (record { cause = None; vars = body.vars; calls = []; cells = cells })

-- the snapshot of a fault of this kind that the segment of this frame ends with: a task too many is refused after the segment has
-- stopped at its make, and any other fault is met within the segment
abbrev pub snapshot_by_kind : Program → Frame → List ℤ → FaultKind → Option FaultSnapshot
snapshot_by_kind p frame cells TaskLimit = let left = segment p frame cells in snapshot_between left.cells left.frame.body
snapshot_by_kind p frame cells _ = snapshot_of (flow_of p frame frame.body cells)

-- the snapshot of a fault of this kind that a task of this row meets in its next segment from this state, if it meets one
abbrev pub snapshot_ahead : Program → State → FaultKind → Option TaskRow → Option FaultSnapshot
snapshot_ahead p st kind None = None
snapshot_ahead p st kind (Some row) = snapshot_by_kind p (ready_frame st.tasks row.frame) st.cells kind

-- the kind of fault that a cause leads to; what has no cause within a segment is a task too many
abbrev pub cause_kind : Option FaultCause → FaultKind
cause_kind None = TaskLimit
cause_kind (Some cause) = fault_kind cause

-- there is a snapshot, and its cause leads to a fault of this kind
pub record HasSnapshot (kind : FaultKind) (snapshot : Option FaultSnapshot) : Type 0 where
  pub there : FaultSnapshot
  pub is : snapshot ≡ Some there
  pub leads : cause_kind there.cause ≡ kind

-- This is the snapshot of the first fault of a journal: the entries before it met none and lead to a state, from which the next
-- segment of its task meets a fault with this snapshot. There is one, and its cause is one of such a fault.
pub record IsFaultSnapshot (p : Program) (lim : Bounds) (journal : List Entry) (fault : FirstFault)
    (snapshot : Option FaultSnapshot) : Type 0 where
  pub before : List Entry
  pub later : List Entry
  pub split : journal ≡ before ++ faulty_entry fault ∷ later
  pub first : All (λ entry. is_fault entry.end ≡ false) before
  pub same : snapshot
      ≡ snapshot_ahead p (state_after p lim before) fault.kind (slice_get (state_after p lim before).tasks fault.task)
  pub there : HasSnapshot fault.kind snapshot
