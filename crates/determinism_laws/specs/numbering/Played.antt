-- A task that was run from a frame on, with the tasks below it, each of their segments over cells of its own; in the order in
-- which sequential code executes them.
use Rattle.std.specs.Prelude.{◌≡◌, ◌<◌, ◌+◌, ◌++◌, ℕ, ℤ, true, List, [], ◌∷◌, length}
use Rattle.twe_base.specs.declared.place.Place.{Place}
use Rattle.effect_sets.specs.declared.effects.Summary.{Summary}
use Rattle.twe_base.specs.Limits.{Bounds}
use Rattle.twe_program.specs.Program.{Program}
use Rattle.seg_meaning.specs.declared.frame.Frame.{Frame}
use Rattle.seg_meaning.specs.declared.stop.Stop.TheVariants.{Make, Joins, Done}
use Rattle.seg_meaning.specs.Access.{Access, Agrees, after}
use Rattle.seg_meaning.specs.Giving.{given}
use Rattle.seg_meaning.specs.Segment.{segment}
use Rattle.machine_state.specs.Moves.{frame_without_prints, making_frame}
use Rattle.determinism_laws.specs.declared.elision.progress.Progress.{Progress}
use Rattle.determinism_laws.specs.elision.Elision.{elided, first_frame, is_child, kept_value}
use Rattle.determinism_laws.specs.elision.Elision as elision
use Rattle.determinism_laws.specs.numbering.Renumbering.{Numbering}

-- a segment that was run: the frame that it began with, and the cells
pub record PlayedStep : Type 0 where
  pub frame : Frame
  pub cells : List ℤ

-- what it accessed, the latest access first
abbrev pub step_accesses : Program → PlayedStep → List Access
step_accesses p step = (segment p step.frame step.cells).accesses

-- the numbers that it printed, after those that its frame began with
abbrev pub step_prints : Program → PlayedStep → List ℤ
step_prints p step = (segment p step.frame step.cells).frame.prints

-- the frame that it left
abbrev pub step_frame : Program → PlayedStep → Frame
step_frame p step = frame_without_prints (segment p step.frame step.cells).frame

-- Task u was run from this frame on, by these steps. Each task has its value in `values`. The tasks are counted in the order
-- in which sequential code makes them: the next one is task `to from` at the start, and `to upto` at the end.
pub data Played (p : Program) (lim : Bounds) (to : Numbering)
    (values : ℕ → ℤ) : ℕ → Frame → List PlayedStep → ℕ → ℕ → Type 0 where
  -- a segment has finished the task
  ends : (u : ℕ) (step : PlayedStep) (count : ℕ) → (segment p step.frame step.cells).stop ≡ Done (values u)
      → Played p lim to values u step.frame (step ∷ []) count count
  -- a segment came to the join of an unjoined child, and the task went on with the child's value
  joins : (u : ℕ) (step : PlayedStep) (on : ℕ) (others : List PlayedStep) (count upto : ℕ)
      → (segment p step.frame step.cells).stop ≡ Joins on
      → is_child on (step_frame p step) ≡ true
      → Played p lim to values u (given (step_frame p step) (values on)) others count upto
      → Played p lim to values u step.frame (step ∷ others) count upto
  -- a segment spawned a child, which was run, and the task went on
  spawns : (u : ℕ) (step : PlayedStep) (child : Frame) (args : List ℤ) (effects : Summary) (future : ℕ) (place : Place)
      (below others : List PlayedStep) (count between upto : ℕ)
      → (segment p step.frame step.cells).stop ≡ Make child args effects true future place → count < lim.tasks
      → Played p lim to values (to count) (first_frame lim (to count) child) below (count + 1) between
      → Played p lim to values u (making_frame future true (to count) (step_frame p step)) others between upto
      → Played p lim to values u step.frame (step ∷ below ++ others) count upto

-- the cells after these steps, executed one after another from these cells on
abbrev pub cells_after : Program → List PlayedStep → List ℤ → List ℤ
cells_after p [] cells = cells
cells_after p (step ∷ others) cells = cells_after p others (after cells (step_accesses p step))

-- the numbers that these steps print, one step after another
abbrev pub played_prints : Program → List PlayedStep → List ℤ
played_prints p [] = []
played_prints p (step ∷ others) = step_prints p step ++ played_prints p others

-- executed so, each step finds the values that it found, wherever it reads
abbrev pub FindTheSame : Program → List PlayedStep → List ℤ → Type 0
FindTheSame p [] cells = Unit {0}
FindTheSame p (step ∷ others) cells =
    Agrees cells (step_accesses p step) × FindTheSame p others (after cells (step_accesses p step))

-- the new numbers tell all tasks apart
abbrev pub IsInjective : Numbering → Type 0
IsInjective to = (a b : ℕ) → to a ≡ to b → a ≡ b

-- each unjoined child of the frame was made, and its value is kept
abbrev pub ChildrenAreKept : Numbering → (ℕ → ℤ) → Frame → Progress → ℕ → Type 0
ChildrenAreKept to values frame s count =
    (child : ℕ) → is_child child frame ≡ true → (child < count) × (kept_value s child ≡ values (to child))

-- The sequential execution of the declaration `task` ends with this value. The cells and the printed numbers are those that
-- the steps give, executed one after another, and so many tasks were made, the first one included.
pub record ElidesTo (p : Program) (lim : Bounds) (task : ℕ) (args cells : List ℤ)
    (value : ℤ) (steps : List PlayedStep) (upto : ℕ) : Type 0 where
  pub later : Progress
  pub ends : elided p lim task args cells ≡ elision.ends value later
  pub cells_are : later.cells ≡ cells_after p steps cells
  pub prints_are : later.prints ≡ played_prints p steps
  pub tasks_are : length later.values ≡ upto
