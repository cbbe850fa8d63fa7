-- What the words ask for.
use Rattle.std.specs.Prelude.{ℕ, List, [], ◌∷◌, ◌++◌, Option, None, Some, codes, false}
use Rattle.command_line.specs.declared.command.Command.{Command}
use Rattle.command_line.specs.declared.command.Command.TheVariants.{Run}
use Rattle.command_line.specs.Numbers.{number_between}
use Rattle.command_line.specs.Options.{max_workers}
use Rattle.text_answers.specs.Answers.{default_limits}

-- a run by so many workers, with the default limits and without its journal
abbrev pub run_by : ℕ → Command
run_by workers = Run workers default_limits false

-- the run that a number of workers asks for, if there is one
abbrev pub run_asked : Option ℕ → Option Command
run_asked None = None
run_asked (Some workers) = Some (run_by workers)

-- the run that the words ask for: there is one word, and it is a number of workers from 1 to 64; other words ask for none
abbrev pub command_asked : List (List ℕ) → Option Command
command_asked [] = None
command_asked (word ∷ []) = run_asked (number_between 1 max_workers word)
command_asked (word ∷ next ∷ others) = None

-- the usage line of `twe_opt`
abbrev pub opt_usage_text : List ℕ
opt_usage_text = codes "usage: twe_opt k" ++ 10 ∷ []
