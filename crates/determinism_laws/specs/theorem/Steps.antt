-- The execution of a task in a journal, as steps in the order of sequential code.
use Rattle.std.specs.Prelude.{◌≡◌, ◌≤◌, ◌+◌, ◌++◌, ◌⊎◌, ℕ, ℤ, List, [], ◌∷◌, length, slice_get}
use Rattle.seg_journal.specs.declared.journal.Entry.{Entry}
use Rattle.twe_base.specs.Limits.{Bounds}
use Rattle.twe_program.specs.Program.{Program}
use Rattle.seg_meaning.specs.declared.frame.Frame.{Frame}
use Rattle.seg_meaning.specs.Access.{printed}
use Rattle.seg_meaning.specs.Entry.{entry_frame}
use Rattle.machine_state.specs.declared.state.TaskRow.{TaskRow}
use Rattle.machine_state.specs.declared.state.TaskStatus.TheVariants.{Done}
use Rattle.machine_state.specs.Moves.{value_of}
use Rattle.machine_state.specs.Rows.{HasStatus, IsRow}
use Rattle.machine_state.specs.Runs.{state_after}
use Rattle.determinism_laws.specs.Deterministic.{IsDeterministic}
use Rattle.determinism_laws.specs.Execution.{Execution, IsNextSegment}
use Rattle.determinism_laws.specs.Frames.{StartsFrom}
use Rattle.determinism_laws.specs.Orders.{SegmentAccesses}
use Rattle.determinism_laws.specs.Segments.{Spawns, state_before}
use Rattle.determinism_laws.specs.Sequential.{AreSegmentsBelow, ExecuteAlike, IsEnabledThroughout, IsRankOrder, IsUnder}
use Rattle.determinism_laws.specs.declared.elision.progress.Progress.{Progress}
use Rattle.determinism_laws.specs.elision.Elision.{elided, first_frame}
use Rattle.determinism_laws.specs.elision.Elision as elision
use Rattle.determinism_laws.specs.numbering.Played.{IsInjective, Played, PlayedStep, step_accesses}
use Rattle.determinism_laws.specs.numbering.Renumbering.{Numbering}

-- the value that a task has at the end of the journal
abbrev pub final_value : Program → Bounds → List Entry → ℕ → ℤ
final_value p lim journal task = value_of (slice_get (state_after p lim journal).tasks task)

-- the steps are these segments: over the cells of the journal, with the same accesses, and nothing is printed before
abbrev pub AreSteps : Program → Bounds → List Entry → List SegmentAccesses → List PlayedStep → Type 0
AreSteps p lim journal [] [] = Unit {0}
AreSteps p lim journal [] (step ∷ steps) = ⊥
AreSteps p lim journal (s ∷ segments) [] = ⊥
AreSteps p lim journal (s ∷ segments) (step ∷ steps) =
    (step.cells ≡ (state_before p lim journal s.key).cells) × (step_accesses p step ≡ s.accesses)
    × (step.frame.prints ≡ [])
    × AreSteps p lim journal segments steps

-- the segment at this place spawned no task
abbrev pub SpawnsNone : Program → Bounds → List Entry → ℕ → Type 0
SpawnsNone p lim journal place = (parent child : ℕ) → ¬ Spawns p lim journal parent place child

-- the tasks that these segments spawned, one after another
abbrev pub AreSpawned : Program → Bounds → List Entry → List SegmentAccesses → List ℕ → Type 0
AreSpawned p lim journal [] [] = Unit {0}
AreSpawned p lim journal [] (child ∷ children) = ⊥
AreSpawned p lim journal (s ∷ segments) [] = SpawnsNone p lim journal s.key × AreSpawned p lim journal segments []
AreSpawned p lim journal (s ∷ segments) (child ∷ children) =
    (SpawnsNone p lim journal s.key × AreSpawned p lim journal segments (child ∷ children))
    ⊎ (((parent : ℕ) × Spawns p lim journal parent s.key child) × AreSpawned p lim journal segments children)

-- the numbering gives these tasks the numbers from `count` on
abbrev pub StepsAreNumbered : Numbering → ℕ → List ℕ → Type 0
StepsAreNumbered to count [] = Unit {0}
StepsAreNumbered to count (child ∷ children) = (to count ≡ child) × StepsAreNumbered to (count + 1) children

-- how many tasks there are after these
abbrev pub tasks_after : ℕ → List ℕ → ℕ
tasks_after count [] = count
tasks_after count (child ∷ children) = tasks_after (count + 1) children

-- the execution of task u from this frame on was played by some steps, whatever the numbering of the tasks that it made
pub record IsPlayed (p : Program) (lim : Bounds) (journal : List Entry)
    (u : ℕ) (frame : Frame) (segments : List SegmentAccesses) : Type 0 where
  pub steps : List PlayedStep
  pub children : List ℕ
  pub same : AreSteps p lim journal segments steps
  pub spawned : AreSpawned p lim journal segments children
  pub played : (to : Numbering) (count : ℕ) → StepsAreNumbered to count children → tasks_after count children ≤ lim.tasks
      → Played p lim to (final_value p lim journal) u frame steps count (tasks_after count children)

-- so it is for each deterministic task that is done at the end, from each of its segments on and from the frame that the
-- segment starts from
abbrev pub ExecutionsArePlayed : Program → Bounds → List Entry → Type 0
ExecutionsArePlayed p lim journal =
    (u place : ℕ) (frame : Frame) (row : TaskRow) (segments : List SegmentAccesses)
    → IsRow (state_after p lim journal) u row → row.status ≡ Done
    → IsDeterministic p row → StartsFrom p lim journal u place frame → Execution p lim journal u place segments
    → IsPlayed p lim journal u frame segments

-- the numbers that these segments printed, one segment after another
abbrev pub printed_by : List SegmentAccesses → List ℤ
printed_by [] = []
printed_by (s ∷ others) = printed s.accesses ++ printed_by others

-- The sequential execution of the declaration `task` on the cells before the entry at `from` ends with the value of this row
-- of task t. It leaves in each cell under the effects of the row the value that it has after the entries, and prints the
-- numbers that the segments of t and of the tasks below it printed, in the order of the journal. So many tasks were made,
-- the first one included.
pub record ElidesAsRun (p : Program) (lim : Bounds) (journal : List Entry)
    (t : ℕ) (row : TaskRow) (from count task : ℕ) (args : List ℤ) (upto : ℕ) : Type 0 where
  pub later : Progress
  pub ends : elided p lim task args (state_before p lim journal from).cells ≡ elision.ends row.value later
  pub leaves : (cell : ℕ) → IsUnder p row cell
      → slice_get later.cells cell ≡ slice_get (state_before p lim journal (from + count)).cells cell
  pub segments : List SegmentAccesses
  pub listed : AreSegmentsBelow p lim journal t from count segments
  pub prints : later.prints ≡ printed_by segments
  pub tasks_are : length later.values ≡ upto

-- Task t was executed by these segments, which spawned these tasks. Under each numbering that gives t and these tasks the
-- first numbers, and is within the limit, its sequential execution is as in the run.
pub record IsElidedAsRun (p : Program) (lim : Bounds) (journal : List Entry)
    (t first from count : ℕ) (row : TaskRow) (task : ℕ) (args : List ℤ) : Type 0 where
  pub segments : List SegmentAccesses
  pub executed : List SegmentAccesses
  pub listed : AreSegmentsBelow p lim journal t from count segments
  pub execution : Execution p lim journal t first executed
  pub order : IsRankOrder p lim journal t segments executed
  pub alike : ExecuteAlike p lim journal row from count segments executed
  pub children : List ℕ
  pub spawned : AreSpawned p lim journal executed children
  pub elides : (to : Numbering) → IsInjective to → to 0 ≡ t → StepsAreNumbered to 1 children
      → tasks_after 1 children ≤ lim.tasks
      → ElidesAsRun p lim journal t row from count task args (tasks_after 1 children)

-- So it is, in each numbering of the tasks below it, for each deterministic task that is done at the end, if its first segment
-- starts from the first frame of a declaration, and for entries before each of which it is enabled, if they begin no later than
-- its first segment, and it is done after them
abbrev pub DoneTasksElideInEachNumbering : Program → Bounds → List Entry → Type 0
DoneTasksElideInEachNumbering p lim journal =
    (t first from count : ℕ) (row : TaskRow) (task : ℕ) (args : List ℤ)
    → IsRow (state_after p lim journal) t row → row.status ≡ Done → IsDeterministic p row
    → 1 ≤ lim.tasks → IsNextSegment journal t 0 first → from ≤ first → IsEnabledThroughout p lim journal t from count
    → HasStatus (state_before p lim journal (from + count)) t Done
    → StartsFrom p lim journal t first (first_frame lim t (entry_frame p task args))
    → IsElidedAsRun p lim journal t first from count row task args

-- And so it is under no condition on numbers: they are there.
abbrev pub DoneTasksElideAsRun : Program → Bounds → List Entry → Type 0
DoneTasksElideAsRun p lim journal =
    (t first from count : ℕ) (row : TaskRow) (task : ℕ) (args : List ℤ)
    → IsRow (state_after p lim journal) t row → row.status ≡ Done → IsDeterministic p row
    → 1 ≤ lim.tasks → IsNextSegment journal t 0 first → from ≤ first → IsEnabledThroughout p lim journal t from count
    → HasStatus (state_before p lim journal (from + count)) t Done
    → StartsFrom p lim journal t first (first_frame lim t (entry_frame p task args))
    → (upto : ℕ) × ElidesAsRun p lim journal t row from count task args upto

-- And so it is for the declaration and the arguments that the task has, with no condition on its first frame.
abbrev pub DoneTasksElideByTheirDeclarations : Program → Bounds → List Entry → Type 0
DoneTasksElideByTheirDeclarations p lim journal =
    (t first from count : ℕ) (row : TaskRow) → IsRow (state_after p lim journal) t row → row.status ≡ Done
    → IsDeterministic p row
    → 1 ≤ lim.tasks → IsNextSegment journal t 0 first → from ≤ first → IsEnabledThroughout p lim journal t from count
    → HasStatus (state_before p lim journal (from + count)) t Done
    → (upto : ℕ) × ElidesAsRun p lim journal t row from count row.decl row.args upto
