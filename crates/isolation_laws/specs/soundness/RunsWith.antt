-- Frames of tasks that run with given arguments.
use Rattle.std.specs.Prelude.{◌≡◌, ◌≤◌, ℕ, ℤ, List, length, take, Option, None, Some, slice_get}
use Rattle.twe_program.specs.Fitting.{TakesArguments}
use Rattle.twe_program.specs.Program.{Program}
use Rattle.seg_meaning.specs.declared.frame.OpenBody.{OpenBody}
use Rattle.seg_meaning.specs.declared.frame.Frame.{Frame}
use Rattle.seg_meaning.specs.declared.frame.Next.{Next}
use Rattle.seg_meaning.specs.declared.frame.Next.TheVariants.{Go, Get, Join, Closing, Ended}

-- the variables of the task's own body begin with the arguments; a body that has ended has none
abbrev pub BeginWith : List ℤ → Option OpenBody → Type 0
BeginWith args None = Unit {0}
BeginWith args (Some body) = take (length args) body.vars ≡ args

-- the local that takes an awaited value, if there is one, comes after the parameters
abbrev pub IntoFrom : ℕ → Option ℕ → Type 0
IntoFrom params None = Unit {0}
IntoFrom params (Some var) = params ≤ var

-- what the task does next gives no parameter another value: the local that takes an awaited value comes after them
abbrev pub NextFrom : ℕ → Next → Type 0
NextFrom params Go = Unit {0}
NextFrom params (Get on into) = IntoFrom params into
NextFrom params (Join on into) = IntoFrom params into
NextFrom params (Closing on) = Unit {0}
NextFrom params Ended = Unit {0}

-- The frame belongs to a task with these arguments. There are as many as its declaration has parameters, the parameters
-- have these values, and the local that takes an awaited value is not a parameter.
pub record RunsWith (p : Program) (args : List ℤ) (frame : Frame) : Type 0 where
  pub count : TakesArguments (slice_get p.tasks frame.decl) (length args)
  pub params : BeginWith args frame.body
  pub next : NextFrom (length args) frame.next
