-- The reading of the command line with `clap`: what each command asks of it, and the command that its matches make.
use Rattle.std.specs.Prelude.{◌≡◌, ℕ, Bool, true, false, List, [], ◌∷◌, fold, Option, None, Some, Result, Ok, Err, codes, bytes_eq, unwrap_or, if◌then◌else◌}
use Rattle.std.specs.Option.{option_and_then, option_map, option_map_or}
use Rattle.std.specs.List.{list_any}
use Rattle.clap.specs.Walk.{Row, Rule, Text, first_of, rows_of}
use Rattle.clap.specs.Simple.{App, matches_of, new_app, new_rule, on_top, with_rule}
use Rattle.clap.specs.Kinds.{Kinds}
use Rattle.clap.specs.Faults.{fault_of}
use Rattle.clap.specs.Matches.{found_of}
use Rattle.clap.specs.declared.builder.action.ArgAction.{ArgAction}
use Rattle.clap.specs.declared.builder.action.ArgAction.TheVariants.{SetTrue}
use Rattle.clap.specs.declared.parser.matches.ArgMatches.{ArgMatches}
use Rattle.twe_base.specs.Language.{default_fuel, default_tasks}
use Rattle.twe_base.specs.Limits.{Bounds}
use Rattle.command_line.specs.declared.command.Command.{Command}
use Rattle.command_line.specs.declared.command.Command.TheVariants.{Check, Run, Replay, Load}
use Rattle.command_line.specs.declared.command.WordsFail.{WordsFail}
use Rattle.command_line.specs.declared.command.WordsFail.TheVariants.{Usage, OutOfMemory}
use Rattle.command_line.specs.declared.setting.Setting.{Setting}
use Rattle.command_line.specs.declared.setting.Setting.TheVariants.{Workers, Fuel, Tasks}
use Rattle.command_line.specs.Options.{Item, of, flag, size, number_for, size_in}
use Rattle.command_line.specs.Words.{run_items, replay_items, load_items}

-- the name of an item's argument
abbrev pub id : Item → Text
id (of Workers) = codes "workers"
id (of Fuel) = codes "fuel"
id (of Tasks) = codes "tasks"
id flag = codes "journal"
id size = codes "N"

-- the word of an item's argument after `--`; the size of a load has none
abbrev pub long : Item → Option Text
long (of setting) = Some (id (of setting))
long flag = Some (id flag)
long size = None

-- what is done if an item's argument is given: the flag is set, and for the others it is left to `clap`
abbrev pub action : Item → Option ArgAction
action flag = Some SetTrue
action (of setting) = None
action size = None

-- whether an item must be given: the size of a load must
abbrev pub is_required : Item → Bool
is_required size = true
is_required (of setting) = false
is_required flag = false

-- the argument of an item
abbrev pub argument : Item → Rule
argument item = record (new_rule (id item)) { long = long item; action = action item; required = is_required item }

-- the command of `clap` with this name, which takes these items and has no help
abbrev pub app_for : Text → List Item → App
app_for name items =
    fold (λ app item. with_rule app (argument item))
    (on_top (λ shape. record shape { disable_help_flag = true }) (new_app name)) items

-- the parse of the words came to this
abbrev pub HasRows : App → List Text → Result ArgMatches WordsFail → Type 0
HasRows app words (Ok m) = (fault_of app words ≡ []) × (rows_of (found_of m) ≡ matches_of app words)
HasRows app words (Err Usage) = fault_of app words ≡ [] → ⊥
HasRows app words (Err (OutOfMemory memory)) = Unit {0}

-- this value was read, or a usage error if there is none
abbrev pub IsRead : {T : Type 0} → Option T → Result T WordsFail → Type 0
IsRead found (Ok value) = found ≡ Some value
IsRead found (Err Usage) = found ≡ None
IsRead found (Err (OutOfMemory memory)) = Unit {0}

-- the number that a text gives, if there is a text
abbrev pub number_in : (Text → Option ℕ) → Option Text → Option (Option ℕ)
number_in read None = Some None
number_in read (Some text) = option_map (λ number. Some number) (read text)

-- the number that a setting is given
abbrev pub number_given : Setting → List Row → Option (Option ℕ)
number_given setting rows = number_in (number_for setting) (first_of (id (of setting)) rows)

-- whether the flag is given
abbrev pub flag_given : List Row → Bool
flag_given rows = option_map_or (λ text. bytes_eq text (codes "true")) (first_of (id flag) rows) false

-- the size that is given
abbrev pub size_given : List Row → Option ℕ
size_given rows = option_and_then size_in (first_of (id size) rows)

-- the limits that the numbers give
abbrev pub limits_given : Option ℕ → Option ℕ → Bounds
limits_given fuel tasks = record { fuel = unwrap_or fuel default_fuel; tasks = unwrap_or tasks default_tasks }

-- the command that the matches of `check` make
abbrev pub check_from : List Row → Option Command
check_from rows = Some Check

-- the command that the matches of `run` make, unless a number is not in its range
abbrev pub run_from : List Row → Option Command
run_from rows =
    option_and_then (λ workers. option_and_then (λ fuel. option_and_then
    (λ tasks. Some (Run (unwrap_or workers 0) (limits_given fuel tasks) (flag_given rows)))
    (number_given Tasks rows)) (number_given Fuel rows)) (number_given Workers rows)

-- the command that the matches of `replay` make, unless a number is not in its range
abbrev pub replay_from : List Row → Option Command
replay_from rows = option_and_then (λ fuel. option_and_then (λ tasks. Some (Replay (limits_given fuel tasks)))
    (number_given Tasks rows)) (number_given Fuel rows)

-- the command that the matches of `load` make, unless a number is missing or not in its range
abbrev pub load_from : List Row → Option Command
load_from rows =
    option_and_then (λ workers. option_and_then (λ n. Some (Load (unwrap_or workers 0) n)) (size_given rows))
    (number_given Workers rows)

-- no step of the parse fails
abbrev pub faultless : Kinds → Bool
faultless [] = true
faultless (kind ∷ kinds) = false

-- the command that `clap` reads in the words: those of a command with this name, which takes these items
abbrev pub parsed : Text → List Item → (List Row → Option Command) → List Text → Option Command
parsed name items from words =
    if faultless (fault_of (app_for name items) words) then from (matches_of (app_for name items) words)
    else None

-- a word is `--`
abbrev pub has_end : List Text → Bool
has_end words = list_any (λ word. bytes_eq word (codes "--")) words

-- the command that `clap` reads in the words, of which this is the first
abbrev pub named : Text → List Text → Option Command
named name words =
    if bytes_eq name (codes "check") then parsed (codes "check") [] check_from words
    else if bytes_eq name (codes "run") then parsed (codes "run") run_items run_from words
    else if bytes_eq name (codes "replay") then parsed (codes "replay") replay_items replay_from words
    else if bytes_eq name (codes "load") then parsed (codes "load") load_items load_from words
    else None

-- the command that `clap` reads in the words by their first one
abbrev pub first_named : List Text → Option Command
first_named [] = None
first_named (name ∷ words) = named name (name ∷ words)

-- the command that is read in the words; with a word `--` there is none
abbrev pub command_of : List Text → Option Command
command_of words = if has_end words then None else first_named words
