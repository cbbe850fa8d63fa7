-- The commands: `check` alone, or `run`, `replay` or `load` and what each of them takes, in any order, nothing twice. `load`
-- takes its size exactly once. Every other list of words is no command.
use Rattle.std.specs.Prelude.{◌≡◌, ◌≤◌, ℕ, List, [], ◌∷◌, Option, None, Some, Result, Ok, Err, codes}
use Rattle.twe_base.specs.Language.{default_fuel, default_tasks}
use Rattle.twe_base.specs.Limits.{Bounds}
use Rattle.command_line.specs.declared.command.Command.{Command}
use Rattle.command_line.specs.declared.command.Command.TheVariants.{Check, Run, Replay, Load}
use Rattle.command_line.specs.declared.command.WordsFail.{WordsFail}
use Rattle.command_line.specs.declared.command.WordsFail.TheVariants.{Usage, OutOfMemory}
use Rattle.command_line.specs.declared.setting.Setting.TheVariants.{Workers, Fuel, Tasks}
use Rattle.command_line.specs.Options.{Item, of, flag, size, Choice, AreOptions, NoneTwice, sizes, number_or, has_flag, max_load, max_workers}

-- what `run` takes
abbrev pub run_items : List Item
run_items = of Workers ∷ of Fuel ∷ of Tasks ∷ flag ∷ []

-- what `replay` takes
abbrev pub replay_items : List Item
replay_items = of Fuel ∷ of Tasks ∷ []

-- what `load` takes
abbrev pub load_items : List Item
load_items = of Workers ∷ size ∷ []

-- the limits that the choices give; a setting that is left out has its default
abbrev pub limits_of : List Choice → Bounds
limits_of choices = record { fuel = number_or default_fuel Fuel choices; tasks = number_or default_tasks Tasks choices }

-- the words mean this command
pub data Means : List (List ℕ) → Command → Type 0 where
  check : Means (codes "check" ∷ []) Check
  run : (words : List (List ℕ)) (choices : List Choice) → AreOptions run_items words choices → NoneTwice choices
      → Means (codes "run" ∷ words) (Run (number_or 0 Workers choices) (limits_of choices) (has_flag choices))
  replay : (words : List (List ℕ)) (choices : List Choice) → AreOptions replay_items words choices → NoneTwice choices
      → Means (codes "replay" ∷ words) (Replay (limits_of choices))
  load : (words : List (List ℕ)) (choices : List Choice) (n : ℕ) → AreOptions load_items words choices → NoneTwice choices
      → sizes choices ≡ n ∷ [] → Means (codes "load" ∷ words) (Load (number_or 0 Workers choices) n)

-- The number of workers of a command. With none, a run stays on the thread that it began on.
abbrev pub workers_of : Command → ℕ
workers_of Check = 0
workers_of (Run workers lim journal) = workers
workers_of (Replay lim) = 0
workers_of (Load workers n) = workers

-- the number of workers and the size of a load are in their ranges
abbrev pub IsSized : Command → Type 0
IsSized Check = Unit {0}
IsSized (Run workers lim journal) = workers ≤ max_workers
IsSized (Replay lim) = Unit {0}
IsSized (Load workers n) = (workers ≤ max_workers) × (1 ≤ n) × (n ≤ max_load)

-- this is the command that the words mean, or none if they mean none
abbrev pub IsMeaning : List (List ℕ) → Option Command → Type 0
IsMeaning words (Some command) = Means words command
IsMeaning words None = (command : Command) → ¬ Means words command

-- The reading of the words comes to this: the command that they mean; or a usage error, exactly if they mean none; or
-- memory ran out.
abbrev pub IsReading : List (List ℕ) → Result Command WordsFail → Type 0
IsReading words (Ok command) = IsMeaning words (Some command)
IsReading words (Err Usage) = IsMeaning words None
IsReading words (Err (OutOfMemory memory)) = Unit {0}
