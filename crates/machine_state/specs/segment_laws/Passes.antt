-- Steps along a control path that pass no task operation.
use Rattle.std.specs.Prelude.{◌≡◌, ℕ, [], ◌∷◌, ◌++◌}
use Rattle.twe_program.specs.Statement.{Statement, Make, Wait, Statements, statement}
use Rattle.cover_flow.specs.ControlPath.{Path}
use Rattle.cover_flow.specs.Steps.{StepsFar}

-- a task operation: a statement that makes a task or waits for one
abbrev pub IsOperation : Statement → Type 0
IsOperation (Make point future task args spawned future_place place) = Unit {0}
IsOperation (Wait point future join into place) = Unit {0}
IsOperation _ = ⊥

-- no step of the path is a task operation
abbrev pub NoOperations : Path → Type 0
NoOperations [] = Unit {0}
NoOperations (s ∷ earlier) = (¬ IsOperation s) × NoOperations earlier

-- some steps lead from the first to the second and pass no operation
pub record Quietly (from : Statements) (path : Path) (left : Statements) (later : Path) : Type 0 where
  pub steps : ℕ
  pub passed : Path
  pub quiet : NoOperations passed
  pub same : later ≡ passed ++ path
  pub far : StepsFar steps from path left later

-- some steps lead to this operation, after which `others` are left, and pass no other operation
abbrev pub Passes : Statements → Path → Statement → Statements → Path → Type 0
Passes from path operation others later = Quietly from path (statement operation others) later
