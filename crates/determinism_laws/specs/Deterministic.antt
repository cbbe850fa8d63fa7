-- What the word `deterministic` of a declaration means while its tasks run: they fork and join.
use Rattle.std.specs.Prelude.{◌≡◌, ℕ, Some, IsTrue, slice_get}
use Rattle.wait_graph.specs.Waiting.{SpawnedBy}
use Rattle.effect_check.specs.Acts.{is_deterministic}
use Rattle.twe_program.specs.Program.{Program}
use Rattle.machine_state.specs.declared.state.State.{State}
use Rattle.machine_state.specs.declared.state.TaskRow.{TaskRow}
use Rattle.machine_state.specs.Rows.{IsRow, row_awaited}

-- the task of this row is of a deterministic declaration
abbrev pub IsDeterministic : Program → TaskRow → Type 0
IsDeterministic p row = IsTrue (is_deterministic (slice_get p.tasks row.decl))

-- each task that a deterministic task spawned is deterministic, joined or not
abbrev pub ChildrenAreDeterministic : Program → State → Type 0
ChildrenAreDeterministic p st =
    (c t : ℕ) (child row : TaskRow) → IsRow st c child → IsRow st t row → child.parent ≡ Some t
    → IsDeterministic p row → IsDeterministic p child

-- a deterministic task waits only for its own unjoined children: if the next operation of its frame is a wait, it is the
-- join of one of them, written or at the end of the body, whether the child is done by now or not
abbrev pub WaitsAreForChildren : Program → State → Type 0
WaitsAreForChildren p st =
    (t on : ℕ) (row : TaskRow) → IsRow st t row → IsDeterministic p row → row_awaited row.frame.next ≡ Some on
    → SpawnedBy st.links on t
