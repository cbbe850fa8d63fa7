-- The accesses that tasks that may run make in their next segments.
use Rattle.std.specs.Prelude.{◌≢◌, ◌≤◌, ℕ, ℤ, List, Contains, length, take}
use Rattle.effect_sets.specs.Access.{Conflict}
use Rattle.seg_journal.specs.declared.journal.Entry.{Entry}
use Rattle.twe_base.specs.Limits.{Bounds}
use Rattle.twe_program.specs.Program.{Program}
use Rattle.seg_meaning.specs.Access.{Access}
use Rattle.seg_meaning.specs.Segment.{segment}
use Rattle.isolation_laws.specs.soundness.DeclaredNow.{access_of}
use Rattle.machine_state.specs.declared.state.State.{State}
use Rattle.machine_state.specs.declared.state.TaskRow.{TaskRow}
use Rattle.machine_state.specs.Legal.{MayRun}
use Rattle.machine_state.specs.Moves.{ready_frame}
use Rattle.machine_state.specs.Rows.{IsRow}
use Rattle.machine_state.specs.Runs.{state_after}
use Rattle.isolation_laws.specs.CoveredNow.{CoveredNow}

-- the task of this row makes the access in its next segment over these cells
abbrev pub Makes : Program → State → TaskRow → List ℤ → Access → Type 0
Makes p st row cells access = Contains (segment p (ready_frame st.tasks row.frame) cells).accesses access

-- each access that a task that may run makes in its next segment is covered for that task, whatever values the cells
-- have; a print counts as a write of `Console`
abbrev pub AccessesAreCovered : Program → State → Type 0
AccessesAreCovered p st =
    (t : ℕ) (row : TaskRow) → IsRow st t row → MayRun st t
    → (cells : List ℤ) (access : Access) → Makes p st row cells access → CoveredNow st t (access_of p access)

-- so it is after each beginning of the journal
abbrev pub AlwaysCovered : Program → Bounds → List Entry → Type 0
AlwaysCovered p lim journal = (n : ℕ) → n ≤ length journal → AccessesAreCovered p (state_after p lim (take n journal))

-- no accesses of two tasks that may run conflict, whatever values the cells have
abbrev pub MoversApart : Program → State → Type 0
MoversApart p st =
    (s t : ℕ) (a b : TaskRow) → s ≢ t → IsRow st s a → IsRow st t b → MayRun st s → MayRun st t
    → (cells other : List ℤ) (x y : Access) → Makes p st a cells x → Makes p st b other y
    → ¬ Conflict (access_of p x) (access_of p y)
