-- Which tasks a task of a declaration may make, by what is written in the bodies.
use Rattle.std.specs.Prelude.{◌≡◌, ℕ, Some, slice_get}
use Rattle.wait_graph.specs.Chain.{Chain}
use Rattle.twe_program.specs.Numbering.{Declared}
use Rattle.twe_program.specs.Program.{Program}
use Rattle.machine_state.specs.segment_laws.Ready.{futures_at}

-- The body of the declaration `maker` makes tasks of the declaration `made` at one place at least. Methods make none.
pub record MakesTasksOf (p : Program) (maker made : ℕ) : Type 0 where
  pub future : ℕ
  pub declared : Declared
  pub there : slice_get (futures_at p maker) future ≡ Some declared
  pub task : declared.task ≡ made

-- A task of the declaration `maker` may lead to tasks of the declaration `made`: it makes them, or tasks that make them, and so on.
pub record MayLeadTo (p : Program) (maker made : ℕ) : Type 0 where
  pub first : ℕ
  pub makes : MakesTasksOf p maker first
  pub chain : Chain (MakesTasksOf p) first made
