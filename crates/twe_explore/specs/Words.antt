-- What the words after the program's name ask for: `--states N`, `--fuel N`, `--tasks N`, and `--journal K` or `--json`. Each stands at
-- most once, and they may stand in any order. Other words ask for nothing, and neither do `--journal` and `--json` together.
use Rattle.std.specs.Prelude.{◌≤◌, ◌&&◌, ℕ, Bool, true, false, List, Option, None, Some, unwrap_or, is_some, codes, bytes_eq, fold, if◌then◌else◌}
use Rattle.twe_base.specs.Language.{default_fuel, default_tasks, max_fuel, max_tasks}
use Rattle.command_line.specs.Numbers.{number_between}
use Rattle.twe_explore.specs.declared.words.Settings.{Settings}
use Rattle.twe_explore.specs.declared.words.WordKind.{WordKind}
use Rattle.twe_explore.specs.declared.words.WordKind.TheVariants.{Option as AnOption, Number, Nowhere}
use Rattle.twe_explore.specs.declared.words.Setting.{Setting}
use Rattle.twe_explore.specs.declared.words.Setting.TheVariants.{States, Fuel, Tasks, Journal}
use Rattle.twe_explore.specs.declared.words.Question.{Question}

-- how many states may be found, if the words don't say so; and the largest number of states, and of a result
abbrev pub default_states : ℕ
default_states = 100000

abbrev pub most_numbered : ℕ
most_numbered = 1000000000

-- what no words ask for
abbrev pub no_settings : Settings
no_settings = record {
  states = None;
  fuel = false;
  tasks = false;
  lim = record { fuel = default_fuel; tasks = default_tasks };
  journal = None;
  json = false;
  next = AnOption;
}

-- the setting that an option names
abbrev pub setting_named : List ℕ → Option Setting
setting_named word =
    if bytes_eq word (codes "--states") then Some States
    else if bytes_eq word (codes "--fuel") then Some Fuel
    else if bytes_eq word (codes "--tasks") then Some Tasks
    else if bytes_eq word (codes "--journal") then Some Journal
    else None

-- whether a setting was given before
abbrev pub was_given : Settings → Setting → Bool
was_given settings States = is_some settings.states
was_given settings Fuel = settings.fuel
was_given settings Tasks = settings.tasks
was_given settings Journal = is_some settings.journal

-- the number that a word is for a setting
abbrev pub setting_number : Setting → List ℕ → Option ℕ
setting_number States word = number_between 1 most_numbered word
setting_number Fuel word = number_between 0 max_fuel word
setting_number Tasks word = number_between 1 max_tasks word
setting_number Journal word = number_between 1 most_numbered word

-- the number is in the range of the setting
abbrev pub IsInRange : Setting → ℕ → Type 0
IsInRange States number = number ≤ most_numbered
IsInRange Fuel number = number ≤ max_fuel
IsInRange Tasks number = (1 ≤ number) × (number ≤ max_tasks)
IsInRange Journal number = number ≤ most_numbered

-- the setting is set, and an option may come next
abbrev pub setting_set : Settings → Setting → ℕ → Settings
setting_set settings States number = record settings { states = Some number; next = AnOption }
setting_set settings Fuel number =
    record settings { fuel = true; lim = record { fuel = number; tasks = settings.lim.tasks }; next = AnOption }
setting_set settings Tasks number =
    record settings { tasks = true; lim = record { fuel = settings.lim.fuel; tasks = number }; next = AnOption }
setting_set settings Journal number = record settings { journal = Some number; next = AnOption }

-- what a word is that comes after an option
abbrev pub kind_of_number : Settings → Option Setting → WordKind
kind_of_number settings None = Nowhere
kind_of_number settings (Some setting) = if was_given settings setting then Nowhere else Number setting

abbrev pub kind_after : Settings → List ℕ → WordKind
kind_after settings word = kind_of_number settings (setting_named word)

-- the results are wanted as JSON
abbrev pub json_taken : Settings → Settings
json_taken settings = if settings.json then record settings { next = Nowhere } else record settings { json = true }

-- an option is taken
abbrev pub with_option : Settings → List ℕ → Settings
with_option settings word =
    if bytes_eq word (codes "--json") then json_taken settings else record settings { next = kind_after settings word }

-- a number is taken for a setting
abbrev pub number_taken : Settings → Setting → Option ℕ → Settings
number_taken settings setting None = record settings { next = Nowhere }
number_taken settings setting (Some number) = setting_set settings setting number

-- one word is taken
abbrev pub settings_after_by : WordKind → Settings → List ℕ → Settings
settings_after_by AnOption settings word = with_option settings word
settings_after_by (Number setting) settings word = number_taken settings setting (setting_number setting word)
settings_after_by Nowhere settings word = settings

abbrev pub settings_after : Settings → List ℕ → Settings
settings_after settings word = settings_after_by settings.next settings word

-- what the words ask for, one after another
abbrev pub settings_in : List (List ℕ) → Settings
settings_in words = fold settings_after no_settings words

-- what is asked for with these settings
abbrev pub asked_with : Settings → Question
asked_with settings =
    record { states = unwrap_or settings.states default_states; lim = settings.lim; journal = settings.journal; json = settings.json }

-- the words ask for this, if the last option has its number, and not both a journal and JSON are wanted
abbrev pub question_at : WordKind → Settings → Option Question
question_at AnOption settings = if settings.json && is_some settings.journal then None else Some (asked_with settings)
question_at (Number setting) settings = None
question_at Nowhere settings = None

abbrev pub question_of : List (List ℕ) → Option Question
question_of words = question_at (settings_in words).next (settings_in words)
