-- What contracts see of a core, and what it answers to a draft.
use Rattle.std.specs.Prelude.{◌≡◌, ◌≢◌, ◌+◌, ℕ, ℤ, List, [], ◌∷◌, ◌++◌, length, Option, None, Some, slice_get}
use Rattle.std.specs.List.{All}
use mathlib.Core.List.{IsPrefix}
use Rattle.seg_journal.specs.declared.journal.Entry.{Entry}
use Rattle.seg_journal.specs.declared.moves.Kind.TheVariants.{Admit}
use Rattle.seg_journal.specs.declared.moves.Kind.TheVariants as kinds
use Rattle.seg_journal.specs.declared.moves.Move.{Move}
use Rattle.twe_base.specs.Limits.{Bounds}
use Rattle.twe_program.specs.Program.{Program}
use Rattle.machine_state.specs.declared.why.Why.TheVariants.{HeldBy}
use Rattle.machine_state.specs.declared.state.State.{State}
use Rattle.machine_state.specs.declared.state.TaskRow.{TaskRow}
use Rattle.machine_state.specs.declared.state.TaskStatus.{TaskStatus}
use Rattle.machine_state.specs.declared.state.TaskStatus.TheVariants.{Made, Enabled, Done, Faulted}
use Rattle.machine_state.specs.Legal.{Forbids, IsBar, MayAdmit, MayMove}
use Rattle.machine_state.specs.Moves.{move_result}
use Rattle.machine_state.specs.Rows.{HasStatus, IsRow}
use Rattle.machine_state.specs.Runs.{IsRun, entry_of}
use Rattle.opt_engine.specs.declared.core_run.CoreRun.{CoreRun}
use Rattle.opt_engine.specs.declared.touch.CellValue.{CellValue}
use Rattle.opt_engine.specs.declared.drafts.Draft.{Draft}
use Rattle.opt_engine.specs.declared.drafts.Drafted.{Drafted}
use Rattle.opt_engine.specs.declared.starts.Start.{Start}
use Rattle.opt_engine.specs.declared.verdict.Verdict.{Verdict}
use Rattle.opt_engine.specs.declared.verdict.Verdict.TheVariants.{Committed, Passed, Held, Changed}
use Rattle.opt_engine.specs.Drafts.{AccessesBeginWith, Fits, IsDraftOf, IsNext, DraftIsReady, StandsIn}
use Rattle.state_copies.specs.Frames.{unreserved}

-- The journal is legal for the program under the limits, and leads to the state. It goes on from the earlier one.
pub record RunGoesOn (p : Program) (lim : Bounds) (earlier : List Entry) (run : CoreRun) : Type 0 where
  pub run_is : IsRun p lim run.journal run.state
  pub begins : IsPrefix earlier run.journal

-- the run of a core goes on from the earlier journal; None once memory ran out
abbrev pub IsKept : Program → Bounds → List Entry → Option CoreRun → Type 0
IsKept p lim earlier None = Unit {0}
IsKept p lim earlier (Some run) = RunGoesOn p lim earlier run

-- the moves that a draft of a task with this status stands for: its admission first, if it waits for it
abbrev pub moves_of : TaskStatus → ℕ → List Move
moves_of Made t = record { kind = kinds.Admit; task = t } ∷ record { kind = kinds.Run; task = t } ∷ []
moves_of Enabled t = record { kind = kinds.Run; task = t } ∷ []
moves_of Done t = record { kind = kinds.Run; task = t } ∷ []
moves_of Faulted t = record { kind = kinds.Run; task = t } ∷ []

-- each of the moves is legal after those before it
abbrev pub AreLegalFrom : Program → Bounds → State → List Move → Type 0
AreLegalFrom p lim st [] = Unit {0}
AreLegalFrom p lim st (mv ∷ mvs) = MayMove st mv × AreLegalFrom p lim (move_result p lim st mv).0 mvs

-- the entries of the moves, one after another from this state on
abbrev pub entries_from : Program → Bounds → State → List Move → List Entry
entries_from p lim st [] = []
entries_from p lim st (mv ∷ mvs) = entry_of p lim st mv ∷ entries_from p lim (move_result p lim st mv).0 mvs

-- the state after the moves
abbrev pub state_from : Program → Bounds → State → List Move → State
state_from p lim st [] = st
state_from p lim st (mv ∷ mvs) = state_from p lim (move_result p lim st mv).0 mvs

-- The moves of a draft were taken: the draft fits and its moves are legal, and their entries come after the others. The
-- last of them has this number, counted from 0.
pub record Takes (p : Program) (lim : Bounds) (old : CoreRun) (d : Drafted) (number : ℕ) (new : CoreRun) : Type 0 where
  pub row : TaskRow
  pub there : IsRow old.state d.task row
  pub fits : Fits old.state d
  pub legal : AreLegalFrom p lim old.state (moves_of row.status d.task)
  pub journal : new.journal ≡ old.journal ++ entries_from p lim old.state (moves_of row.status d.task)
  pub state : new.state ≡ state_from p lim old.state (moves_of row.status d.task)
  pub last : number + 1 ≡ length new.journal

-- this read is the first of the reads whose cell has another value now
pub record IsFirstChange (cells : List ℤ) (reads : List CellValue) (cell : ℕ) (read now : ℤ) : Type 0 where
  pub before : List CellValue
  pub after : List CellValue
  pub split : reads ≡ before ++ record { cell = cell; value = read } ∷ after
  pub stand : All (StandsIn cells) before
  pub is_now : slice_get cells cell ≡ Some now
  pub differs : now ≢ read

-- nothing holds the task back: if it waits for its admission, it may be admitted
abbrev pub IsFree : State → ℕ → Type 0
IsFree st t = HasStatus st t Made → MayAdmit st t

-- What a core with this run answers to a draft, and its run afterwards. After each answer but the first the run is as before.
abbrev pub Judges : Program → Bounds → CoreRun → Drafted → Verdict → Option CoreRun → Type 0
Judges p lim run d (Committed number) new = (after : CoreRun) × (new ≡ Some after) × Takes p lim run d number after
-- the draft is not of the segment that its task runs next
Judges p lim run d Passed new = (new ≡ Some run) × ¬ IsNext run.state d
-- it is, and the task is held back; this is the lowest bar, and the draft is given back
Judges p lim run d (Held by draft) new =
    (new ≡ Some run) × IsNext run.state d × Forbids run.state Admit d.task (HeldBy by) × (draft ≡ d)
-- it is, nothing holds the task back, and this is the first read whose cell has another value now
Judges p lim run d (Changed cell read now) new =
    (new ≡ Some run) × IsNext run.state d × IsFree run.state d.task × IsFirstChange run.state.cells d.reads cell read now

-- the core had a run, and answers so
abbrev pub AnswersCommit : Program → Bounds → List Entry → Option CoreRun → Drafted → Verdict → Option CoreRun → Type 0
AnswersCommit p lim earlier old d verdict new =
    (run : CoreRun) × (old ≡ Some run) × RunGoesOn p lim earlier run × Judges p lim run d verdict new

-- the start of the next segment of the task: the task is ready, and this is the frame that the segment begins with; none if the
-- task is not ready
abbrev pub IsStartAt : State → ℕ → Option Start → Type 0
IsStartAt st t None = ¬ DraftIsReady st t
IsStartAt st t (Some start) =
    DraftIsReady st t × (start.task ≡ t) × AccessesBeginWith st t start.frame × (start.frame ≡ unreserved start.frame)

-- the core had a run, and gives a start of its state
abbrev pub Starts : Option CoreRun → ℕ → Option Start → Type 0
Starts core t start = (run : CoreRun) × (core ≡ Some run) × IsStartAt run.state t start

-- a draft of the next segment of the task: the task is ready, and the draft has the cells and the frame that the segment
-- begins with; none if the task is not ready
abbrev pub IsDraftAt : Program → State → ℕ → Option Draft → Type 0
IsDraftAt p st t None = ¬ DraftIsReady st t
IsDraftAt p st t (Some draft) =
    DraftIsReady st t × (draft.task ≡ t) × AccessesBeginWith st t draft.frame × (draft.cells ≡ st.cells) × IsDraftOf p draft

-- the core had a run, and gives a draft of its state
abbrev pub Drafts : Program → Option CoreRun → ℕ → Option Draft → Type 0
Drafts p core t draft = (run : CoreRun) × (core ≡ Some run) × IsDraftAt p run.state t draft

-- the core had a run, in which this is a bar to the admission of the task; None if nothing holds the task back
abbrev pub HoldsBack : Option CoreRun → ℕ → Option ℕ → Type 0
HoldsBack core t None = (run : CoreRun) × (core ≡ Some run) × IsFree run.state t
HoldsBack core t (Some by) = (run : CoreRun) × (core ≡ Some run) × IsBar run.state by t
