-- What the words after the program's name ask for: `--name FILE`, `--lines`, `--all`, and `--run`, beside which `--fuel N` and
-- `--tasks N` may stand. Each stands at most once, and they may stand in any order. Other words ask for nothing.
use Rattle.std.specs.Prelude.{ℕ, Bool, true, false, ◌&&◌, ◌||◌, not, List, [], Option, None, Some, unwrap_or, is_some, codes, bytes_eq, fold, if◌then◌else◌}
use Rattle.twe_base.specs.Language.{default_fuel, default_tasks, max_fuel, max_tasks}
use Rattle.twe_base.specs.Limits.{Bounds}
use Rattle.command_line.specs.Numbers.{number_between}
use Rattle.twe_explain.specs.declared.words.Asked.{Asked}
use Rattle.twe_explain.specs.declared.words.NextWord.{NextWord}
use Rattle.twe_explain.specs.declared.words.NextWord.TheVariants.{Option as AnOption, Name, Fuel, Tasks, Nothing}
use Rattle.twe_explain.specs.declared.words.Wish.{Wish}

-- what no words ask for
abbrev pub asked_first : Asked
asked_first = record {
  name = None;
  lines = false;
  all = false;
  run = false;
  fuel = false;
  tasks = false;
  lim = record { fuel = default_fuel; tasks = default_tasks };
  next = AnOption;
}

-- an option is taken, if it is not given before
abbrev pub option_taken : Asked → List ℕ → Asked
option_taken asked word =
    if bytes_eq word (codes "--name") && not (is_some asked.name) then record asked { next = Name }
    else if bytes_eq word (codes "--lines") && not asked.lines then record asked { lines = true }
    else if bytes_eq word (codes "--all") && not asked.all then record asked { all = true }
    else if bytes_eq word (codes "--run") && not asked.run then record asked { run = true }
    else if bytes_eq word (codes "--fuel") && not asked.fuel then record asked { next = Fuel }
    else if bytes_eq word (codes "--tasks") && not asked.tasks then record asked { next = Tasks }
    else record asked { next = Nothing }

-- a number is taken as that of the fuel
abbrev pub fuel_taken : Asked → Option ℕ → Asked
fuel_taken asked None = record asked { next = Nothing }
fuel_taken asked (Some fuel) =
    record asked { fuel = true; lim = record { fuel = fuel; tasks = asked.lim.tasks }; next = AnOption }

-- a number is taken as that of the tasks
abbrev pub tasks_taken : Asked → Option ℕ → Asked
tasks_taken asked None = record asked { next = Nothing }
tasks_taken asked (Some tasks) =
    record asked { tasks = true; lim = record { fuel = asked.lim.fuel; tasks = tasks }; next = AnOption }

-- one word is taken, which is an option, or what the option before it asks for
abbrev pub word_taken_as : NextWord → Asked → List ℕ → Asked
word_taken_as AnOption asked word = option_taken asked word
word_taken_as Name asked word = record asked { name = Some word; next = AnOption }
word_taken_as Fuel asked word = fuel_taken asked (number_between 0 max_fuel word)
word_taken_as Tasks asked word = tasks_taken asked (number_between 1 max_tasks word)
word_taken_as Nothing asked word = asked

abbrev pub word_taken : Asked → List ℕ → Asked
word_taken asked word = word_taken_as asked.next asked word

-- what the words ask for, one after another
abbrev pub asked_in : List (List ℕ) → Asked
asked_in words = fold word_taken asked_first words

-- an option may come next
abbrev pub is_option : NextWord → Bool
is_option AnOption = true
is_option _ = false

-- the last option has what it asks for, and limits are given only to a run
abbrev pub is_whole : Asked → Bool
is_whole asked = is_option asked.next && (asked.run || not (asked.fuel || asked.tasks))

-- the limits of the run, if one is asked for
abbrev pub run_of : Asked → Option Bounds
run_of asked = if asked.run then Some asked.lim else None

-- what is asked for
abbrev pub wish_made : Asked → Wish
wish_made asked = record {
  wanted = record { name = unwrap_or asked.name []; lines = asked.lines };
  all = asked.all;
  run = run_of asked;
}

-- the words ask for this, if they are whole
abbrev pub wish_of : List (List ℕ) → Option Wish
wish_of words = if is_whole (asked_in words) then Some (wish_made (asked_in words)) else None
