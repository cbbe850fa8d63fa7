-- Frames that wait only for tasks that they have made.
use Rattle.std.specs.Prelude.{◌≡◌, ℕ, ℤ, Bool, true, false, List, length, Option, None, Some, slice_get}
use Rattle.effect_sets.specs.declared.effects.Summary.{Summary}
use Rattle.twe_program.specs.Fitting.{TakesArguments, count_of}
use Rattle.twe_program.specs.Futures.{AllWaitsFollow}
use Rattle.twe_program.specs.Numbering.{Declared, futures_of_all}
use Rattle.twe_program.specs.Program.{Program}
use Rattle.twe_program.specs.Statement.{Statement, Block, Let, Set, SetCell, SetArray, SetGrid, If, While, Return, Print, Call, Make, Wait, Statements, no_more, statement, Arms, arm, otherwise, no_else}
use Rattle.seg_meaning.specs.declared.frame.Frame.{Frame}
use Rattle.seg_meaning.specs.Entry.{effects_at, entry_frame}
use Rattle.seg_meaning.specs.Meaning.{body_of}
use Rattle.machine_state.specs.segment_laws.Left.{left_of}

-- the future stands for a task
abbrev pub stands_for_one : Option (Option ℕ) → Bool
stands_for_one (Some (Some task)) = true
stands_for_one (Some None) = false
stands_for_one None = false

-- whether the future of this number stands for a task
abbrev pub is_future_set : List (Option ℕ) → ℕ → Bool
is_future_set futures future = stands_for_one (slice_get futures future)

-- the futures that the body of a declaration declares
abbrev pub futures_at : Program → ℕ → List Declared
futures_at p decl = futures_of_all (body_of (slice_get p.tasks decl))

-- the future is declared, for tasks that are spawned or for tasks that are not
abbrev pub IsDeclaredAs : Option Declared → Bool → Type 0
IsDeclaredAs None spawned = ⊥
IsDeclaredAs (Some future) spawned = future.spawned ≡ spawned

-- each task is made into the future that is declared for it, with as many arguments as it has parameters; a `join` is for
-- a future of `spawn`, and a `getValue` for one of `executeLater`
abbrev mutual
  -- the operations in a statement fit
  pub OperationsFit : Program → List Declared → Statement → Type 0
  OperationsFit p futures (Block point body) = AllOperationsFit p futures body
  OperationsFit p futures (Let point var value) = Unit {0}
  OperationsFit p futures (Set point var value) = Unit {0}
  OperationsFit p futures (SetCell point cell value place) = Unit {0}
  OperationsFit p futures (SetArray point array index value place) = Unit {0}
  OperationsFit p futures (SetGrid point array row column value place) = Unit {0}
  OperationsFit p futures (If point arms) = ArmsOperationsFit p futures arms
  OperationsFit p futures (While point condition body place) = AllOperationsFit p futures body
  OperationsFit p futures (Return point value) = Unit {0}
  OperationsFit p futures (Print point value place) = Unit {0}
  OperationsFit p futures (Call point method args place) = Unit {0}
  OperationsFit p futures (Make point future task args spawned future_place place) =
      (slice_get futures future ≡ Some (record { future = future; task = task; spawned = spawned }))
      × TakesArguments (slice_get p.tasks task) (count_of args)
  OperationsFit p futures (Wait point future join into place) = IsDeclaredAs (slice_get futures future) join

  -- those in the statements of a block
  pub AllOperationsFit : Program → List Declared → Statements → Type 0
  AllOperationsFit p futures no_more = Unit {0}
  AllOperationsFit p futures (statement first others) = OperationsFit p futures first × AllOperationsFit p futures others

  -- those in the arms of an `if`
  pub ArmsOperationsFit : Program → List Declared → Arms → Type 0
  ArmsOperationsFit p futures no_else = Unit {0}
  ArmsOperationsFit p futures (otherwise body) = AllOperationsFit p futures body
  ArmsOperationsFit p futures (arm condition body others) = AllOperationsFit p futures body × ArmsOperationsFit p futures others

-- the frame has the futures of its body, each wait in the rest of the body is for a future that stands for a task by then,
-- and each operation in the rest fits the declarations
pub record IsReady (p : Program) (frame : Frame) : Type 0 where
  pub waits : AllWaitsFollow (is_future_set frame.futures) (left_of p frame)
  pub futures : length frame.futures ≡ length (futures_at p frame.decl)
  pub operations : AllOperationsFit p (futures_at p frame.decl) (left_of p frame)

-- the frame waits for the task that one of its futures stands for, which was spawned, or was not
pub record AwaitsMade (p : Program) (frame : Frame) (spawned : Bool) (on : ℕ) : Type 0 where
  pub future : ℕ
  pub stands : slice_get frame.futures future ≡ Some (Some on)
  pub declared : IsDeclaredAs (slice_get (futures_at p frame.decl) future) spawned

-- the frame makes a task as its body declares it, with as many arguments as the task has parameters
pub record MakesDeclared (p : Program) (frame child : Frame)
    (args : List ℤ) (effects : Summary) (spawned : Bool) (into : ℕ) : Type 0 where
  pub task : ℕ
  pub child_is : child ≡ entry_frame p task args
  pub effects_are : effects ≡ effects_at p task args
  pub takes : TakesArguments (slice_get p.tasks task) (length args)
  pub declared : slice_get (futures_at p frame.decl) into ≡ Some (record { future = into; task = task; spawned = spawned })
