-- The limits of a run.
use Rattle.std.specs.Prelude.{ℕ, ◌≤◌}
use Rattle.twe_base.specs.Language.{max_fuel, max_tasks}

-- how much fuel each task has, and how many tasks may be made
pub record Bounds : Type 0 where
  pub fuel : ℕ
  pub tasks : ℕ

-- the limits are in range; at least one task is allowed, the first one
pub record IsWithin (fuel tasks : ℕ) : Type 0 where
  pub fuel_most : fuel ≤ max_fuel
  pub tasks_least : 1 ≤ tasks
  pub tasks_most : tasks ≤ max_tasks
