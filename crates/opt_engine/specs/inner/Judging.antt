-- What is found of a draft.
use Rattle.std.specs.Prelude.{◌≡◌, ◌≢◌, ◌⊎◌, ℕ, ℤ, List, Some, slice_get}
use Rattle.seg_journal.specs.declared.moves.Kind.TheVariants.{Admit}
use Rattle.machine_state.specs.declared.why.Why.TheVariants.{HeldBy}
use Rattle.machine_state.specs.declared.state.State.{State}
use Rattle.machine_state.specs.declared.state.TaskStatus.TheVariants.{Made}
use Rattle.machine_state.specs.Legal.{Forbids}
use Rattle.machine_state.specs.Rows.{HasStatus}
use Rattle.twe_base.specs.Limits.{Bounds}
use Rattle.twe_program.specs.Program.{Program}
use Rattle.opt_engine.specs.declared.core_run.CoreRun.{CoreRun}
use Rattle.opt_engine.specs.declared.touch.CellValue.{CellValue}
use Rattle.opt_engine.specs.declared.drafts.Drafted.{Drafted}
use Rattle.opt_engine.specs.declared.judging.Change.{Change}
use Rattle.opt_engine.specs.declared.judging.Finding.{Finding}
use Rattle.opt_engine.specs.declared.judging.Finding.TheVariants as findings
use Rattle.opt_engine.specs.Drafts.{Fits, IsNext}
use Rattle.opt_engine.specs.Taking.{TakingSteps}
use Rattle.opt_engine.specs.Verdicts.{IsFirstChange, IsFree}

-- the cell of this read has another value now
pub record HasChanged (cells : List ℤ) (read : CellValue) (change : Change) : Type 0 where
  pub cell : change.cell ≡ read.cell
  pub was : change.read ≡ read.value
  pub is_now : slice_get cells change.cell ≡ Some change.now
  pub differs : change.now ≢ change.read

-- this change is that of the first of the reads whose cell has another value now
abbrev pub IsChange : List ℤ → List CellValue → Change → Type 0
IsChange cells reads change = IsFirstChange cells reads change.cell change.read change.now

-- what is found is true of the draft: it fits and its task is free; it isn't of the segment that its task runs next; its
-- task is held; or a cell that it has read has another value now
abbrev pub Finds : State → Drafted → Finding → Type 0
Finds st d findings.Fits = Fits st d × IsFree st d.task
Finds st d findings.Passed = ¬ IsNext st d
Finds st d (findings.Held by) = IsNext st d × Forbids st Admit d.task (HeldBy by)
Finds st d (findings.Changed change) = IsNext st d × IsFree st d.task × IsChange st.cells d.reads change

-- the admission of a task that waits for it was taken; otherwise the run is as before
abbrev pub Admits : Program → Bounds → CoreRun → ℕ → CoreRun → Type 0
Admits p lim old t new =
    (HasStatus old.state t Made × TakingSteps p lim old (record { kind = Admit; task = t }) new)
    ⊎ (¬ HasStatus old.state t Made × (new ≡ old))
