-- Which moves of a state are enough: no way to end is lost if only these are taken.
use Rattle.std.specs.Prelude.{◌≡◌, ℕ}
use Rattle.seg_journal.specs.declared.moves.Kind.TheVariants.{Admit, Run}
use Rattle.seg_journal.specs.declared.moves.Move.{Move}
use Rattle.twe_program.specs.Program.{Program}
use Rattle.machine_state.specs.declared.state.State.{State}
use Rattle.machine_state.specs.Legal.{MayAdmit, MayRun}
use Rattle.reduction_laws.specs.declared.choice.Choice.{Choice}
use Rattle.reduction_laws.specs.declared.choice.Choice.TheVariants.{Admission, EachAdmission, Segment}
use Rattle.reduction_laws.specs.Meeting.{NothingMeets}

-- the move is one of the choice, if it is legal
abbrev pub IsChosen : Choice → Move → Type 0
IsChosen (Segment t) mv = (mv.kind ≡ Run) × (mv.task ≡ t)
IsChosen (Admission t) mv = (mv.kind ≡ Admit) × (mv.task ≡ t)
IsChosen EachAdmission mv = mv.kind ≡ Admit

-- The choice is enough: a task that may run; or a task that may be admitted and that nothing meets; or each task that may be admitted,
-- if none may run.
abbrev pub IsEnough : Program → State → Choice → Type 0
IsEnough p st (Segment t) = MayRun st t
IsEnough p st (Admission t) = MayAdmit st t × NothingMeets p st t
IsEnough p st EachAdmission = (t : ℕ) → ¬ MayRun st t
