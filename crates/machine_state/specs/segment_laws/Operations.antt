-- The task operation of a body at which a segment stops.
use Rattle.std.specs.Prelude.{◌≡◌, ℕ, ℤ, Bool, List, [], ◌∷◌, Option, slice_get}
use Rattle.twe_base.specs.declared.place.Place.{Place}
use Rattle.effect_sets.specs.declared.effects.Summary.{Summary}
use Rattle.twe_program.specs.Expression.{Expression, Literal, Arguments, no_more, argument}
use Rattle.twe_program.specs.Program.{Program}
use Rattle.twe_program.specs.Statement.{Make, Wait}
use Rattle.cover_flow.specs.ControlPath.{Path}
use Rattle.seg_meaning.specs.declared.frame.Frame.{Frame}
use Rattle.seg_meaning.specs.Entry.{effects_at, entry_frame}
use Rattle.seg_meaning.specs.Segment.{task_of}
use Rattle.machine_state.specs.segment_laws.Left.{left_of}
use Rattle.machine_state.specs.segment_laws.Passes.{Passes}

-- an expression may have this value: a literal has its own value, and any other expression may have each value
abbrev pub MayHave : Expression → ℤ → Type 0
MayHave (Literal literal) value = value ≡ literal
MayHave _ value = Unit {0}

-- the arguments may have these values, one for each argument
abbrev pub AllMayHave : Arguments → List ℤ → Type 0
AllMayHave no_more [] = Unit {0}
AllMayHave no_more (value ∷ values) = ⊥
AllMayHave (argument first others) [] = ⊥
AllMayHave (argument first others) (value ∷ values) = MayHave first value × AllMayHave others values

-- From the rest of the frame `before`, a control path that passes no other operation leads to the statement that makes
-- this task, and the rest after that statement is the rest of the frame `after`. The task is one of the declaration that
-- the statement names, and the arguments may have these values.
pub record ComesToMake (p : Program) (before after : Frame) (path : Path) (child : Frame) (args : List ℤ) (effects : Summary)
    (spawned : Bool) (future : ℕ) (place : Place) : Type 0 where
  pub point : ℕ
  pub task : ℕ
  pub given : Arguments
  pub future_place : Place
  pub later : Path
  pub passes : Passes (left_of p before) path (Make point future task given spawned future_place place) (left_of p after) later
  pub child_is : child ≡ entry_frame p task args
  pub effects_are : effects ≡ effects_at p task args
  pub values : AllMayHave given args

-- the same for a wait for the task `on`, which a future of the frame stands for
pub record ComesToWait (p : Program) (before after : Frame) (path : Path) (join : Bool) (on : ℕ) (into : Option ℕ) : Type 0 where
  pub point : ℕ
  pub future : ℕ
  pub place : Place
  pub later : Path
  pub passes : Passes (left_of p before) path (Wait point future join into place) (left_of p after) later
  pub on_is : on ≡ task_of (slice_get before.futures future)
