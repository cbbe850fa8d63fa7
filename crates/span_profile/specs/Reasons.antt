-- Why an entry of a chain comes after the one before it.
use Rattle.std.specs.Prelude.{◌≡◌, ◌≢◌, ◌<◌, ◌⊎◌, ◌↔◌, ◌++◌, ℕ, zero, suc, Bool, true, false, List, [], ◌∷◌, Option, None, Some, IsTrue, length, map, slice_get}
use Rattle.std.specs.List.{Contains}
use Rattle.region_paths.specs.Concrete.{ConcretePath, region}
use Rattle.seg_journal.specs.declared.journal.Entry.{Entry}
use Rattle.seg_journal.specs.declared.moves.Move.{Move}
use Rattle.seg_journal.specs.Spelling.{move_of}
use Rattle.seg_meaning.specs.Access.{Access as CellAccess, Reads, Writes, Prints}
use Rattle.twe_base.specs.Limits.{Bounds}
use Rattle.twe_program.specs.Program.{Program}
use Rattle.isolation_laws.specs.soundness.CellPaths.{path_of_cell}
use Rattle.machine_state.specs.Runs.{Legal, counted}
use Rattle.span_profile.specs.Strands.{Strand, strands}
use Rattle.span_profile.specs.declared.reasons.LinkReason.{LinkReason}
use Rattle.span_profile.specs.declared.reasons.LinkReason.TheVariants.{First, GoesOn, Made, Took, Read, Printed, Wrote, Unlinked}
use Rattle.span_profile.specs.declared.reasons.ChainStep.{ChainStep}

-- the entry has accessed the path, by a write or by a read
abbrev pub Accessed : Strand → Bool → ConcretePath → Type 0
Accessed strand write path = Contains strand.accesses (record { write = write; path = path })

-- the entry has written the path or read it
abbrev pub Touched : Strand → ConcretePath → Type 0
Touched strand path = Accessed strand true path ⊎ Accessed strand false path

-- the path that a print writes
abbrev pub console_path : ConcretePath
console_path = region 0 ∷ []

-- the cell that an access reads, if it is a read
abbrev pub read_cell : CellAccess → Option ℕ
read_cell (Reads cell value) = Some cell
read_cell (Writes cell value) = None
read_cell (Prints value) = None

-- the cell that an access writes, if it is a write of a cell
abbrev pub written_cell : CellAccess → Option ℕ
written_cell (Reads cell value) = None
written_cell (Writes cell value) = Some cell
written_cell (Prints value) = None

-- The cell is the first that the entry has accessed in this way and whose path has the property. The latest of its accesses
-- stands first in their list.
pub record IsFirstCell (p : Program) (strand : Strand) (cell_of : CellAccess → Option ℕ) (Has : ConcretePath → Type 0)
    (cell : ℕ) : Type 0 where
  pub later : List CellAccess
  pub access : CellAccess
  pub earlier : List CellAccess
  pub split : strand.cells ≡ later ++ access ∷ earlier
  pub accessed : cell_of access ≡ Some cell
  pub has : Has (path_of_cell p cell)
  pub none : (before : CellAccess) (other : ℕ) → Contains earlier before → cell_of before ≡ Some other
      → ¬ Has (path_of_cell p other)

-- The tasks of two entries do not say why the second follows: it is of another task, which the first has not made, and does not
-- begin with the value of the task that the first has done.
pub record IsUntold (a b : Strand) : Type 0 where
  pub other : a.task ≢ b.task
  pub unmade : a.made ≢ Some b.task
  pub untaken : IsTrue a.done → b.taken ≢ Some a.task

-- the second entry reads no path that the first has written
abbrev pub ReadsNone : Strand → Strand → Type 0
ReadsNone a b = (path : ConcretePath) → Accessed b false path → ¬ Accessed a true path

-- it writes no path that the first has accessed
abbrev pub WritesNone : Strand → Strand → Type 0
WritesNone a b = (path : ConcretePath) → Accessed b true path → ¬ Touched a path

-- it does not write `Console`, or the first has not accessed that
abbrev pub PrintsNone : Strand → Strand → Type 0
PrintsNone a b = Accessed b true console_path → ¬ Touched a console_path

-- the flag says whether the entry has written the path
abbrev pub SaysWhether : Strand → ConcretePath → Bool → Type 0
SaysWhether a path wrote = IsTrue wrote ↔ Accessed a true path

-- Why the second entry follows the first, where the first reason that holds counts. A cell that is named is the first that there
-- is: of those that the second reads and whose path the first has written; then, if there is no write of `Console`, of those that
-- the second writes and whose path the first has accessed.
pub data IsReasonFor (p : Program) (a b : Strand) : LinkReason → Type 0 where
  -- they are of one task
  goes_on : a.task ≡ b.task → IsReasonFor p a b GoesOn
  -- the first made the task of the second
  made : a.task ≢ b.task → a.made ≡ Some b.task → IsReasonFor p a b Made
  -- the second begins by taking the value of the task that is done by the first
  took : a.task ≢ b.task → a.made ≢ Some b.task → IsTrue a.done → b.taken ≡ Some a.task → IsReasonFor p a b Took
  -- the second reads the path of this cell, which the first wrote
  read : (cell : ℕ) → IsUntold a b → IsFirstCell p b read_cell (Accessed a true) cell → IsReasonFor p a b (Read cell)
  -- the second writes `Console`, as a print does, and the first wrote it or only read it
  printed : (wrote : Bool) → IsUntold a b → ReadsNone a b → Accessed b true console_path → Touched a console_path
      → SaysWhether a console_path wrote → IsReasonFor p a b (Printed wrote)
  -- the second writes the path of this cell, which the first wrote or only read
  wrote : (cell : ℕ) (wrote : Bool) → IsUntold a b → ReadsNone a b → PrintsNone a b
      → IsFirstCell p b written_cell (Touched a) cell → SaysWhether a (path_of_cell p cell) wrote
      → IsReasonFor p a b (Wrote cell wrote)
  -- there is no reason
  unlinked : IsUntold a b → ReadsNone a b → WritesNone a b → IsReasonFor p a b Unlinked

-- the reason why an entry follows the one before it in a list of entries, at whose end it stands if the list has so many others;
-- the first entry has none
abbrev pub IsReasonAt : Program → List Strand → List ℕ → ℕ → Strand → LinkReason → Type 0
IsReasonAt p strands chain zero b reason = reason ≡ First
IsReasonAt p strands chain (suc k) b reason =
    (i : ℕ) × (a : Strand) × (slice_get chain k ≡ Some i) × (slice_get strands i ≡ Some a) × IsReasonFor p a b reason

-- The step tells of the entry at this place of the chain: its number, its task, and why it follows the one before it.
pub record IsStepAt (p : Program) (strands : List Strand) (chain : List ℕ) (k : ℕ) (step : ChainStep) : Type 0 where
  pub entry : slice_get chain k ≡ Some step.entry
  pub strand : Strand
  pub there : slice_get strands step.entry ≡ Some strand
  pub task : step.task ≡ strand.task
  pub reason : IsReasonAt p strands chain k strand step.reason

-- there is a step for each entry of the chain, in its order
pub record AreChainSteps (p : Program) (strands : List Strand) (chain : List ℕ) (steps : List ChainStep) : Type 0 where
  pub count : length steps ≡ length chain
  pub each : (k : ℕ) (step : ChainStep) → slice_get steps k ≡ Some step → IsStepAt p strands chain k step

-- The moves are those of a legal journal, and the steps tell of this chain of entries of its counted part.
pub record HasSteps (p : Program) (lim : Bounds) (moves : List Move) (chain : List ℕ) (steps : List ChainStep) : Type 0 where
  pub journal : List Entry
  pub legal : Legal p lim journal
  pub has : map move_of journal ≡ moves
  pub steps_are : AreChainSteps p (strands p lim (counted journal)) chain steps
