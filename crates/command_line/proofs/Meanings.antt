-- The command that `clap` reads is the one that the words mean.
use Rattle.std.proofs.Common.{◌≡◌, ◌≤◌, ◌||◌, ℕ, List, [], ◌∷◌, Bool, true, false, cond, codes, bytes_eq, fold, Option, None, Some, Result, Ok, Err, option_and_then, unwrap_or, slice_index_or, refl, sym, ap, ap₂, ◌∙◌, subst, arith, length, true≢false}
use Rattle.std.proofs.lemmas.Option.{none-some, option_and_then_some, same_Some}
use Rattle.std.proofs.lemmas.Slice.Eq.{bytes_eq-Decides}
use Rattle.twe_base.specs.Language.{default_fuel, default_tasks}
use Rattle.twe_base.specs.Limits.{Bounds}
use Rattle.clap.specs.Walk.{Row, Text, with_default}
use Rattle.clap.specs.Takes.{is_given}
use Rattle.clap.specs.Faults.{check_fault}
use Rattle.command_line.specs.declared.command.Command.{Command}
use Rattle.command_line.specs.declared.command.Command.TheVariants.{Check, Run, Replay, Load}
use Rattle.command_line.specs.declared.command.WordsFail.{WordsFail}
use Rattle.command_line.specs.declared.command.WordsFail.TheVariants.{Usage, OutOfMemory}
use Rattle.command_line.specs.declared.setting.Setting.{Setting}
use Rattle.command_line.specs.declared.setting.Setting.TheVariants.{Workers, Fuel, Tasks}
use Rattle.command_line.specs.Options.{Item, of, flag, size, later, Choice, AreOptions, no_more, value_beside, value_inside, flagged, sized, numbers_for, number_or, sizes, number_for, size_in}
use Rattle.command_line.specs.Words as words
use Rattle.command_line.specs.Words.{run_items, replay_items, load_items, limits_of, Means, IsMeaning, IsReading}
use Rattle.command_line.specs.inner.Reading.{id, IsRead, has_end, parsed, number_given, number_in, flag_given, size_given, limits_given, check_from, run_from, replay_from, load_from, named, first_named, command_of}
use Rattle.command_line.proofs.Lookups.{rules}
use Rattle.command_line.proofs.Rows.{Use, rows}
use Rattle.command_line.proofs.Turns.{shape}
use Rattle.command_line.proofs.Uses.{all_chosen, map_some}
use Rattle.command_line.proofs.Finds.{text_of, head_of, numbers_are, size_is, flag_is, GiveNumbers, all_chosen_if}
use Rattle.command_line.proofs.Parses.{IsCommand, Taken, taken, number_is, flag_value, size_value, none_twice, size_is_given, found}

-- ---- the four commands, as `clap` builds them

checks : IsCommand (codes "check") []
checks = record { faults = λ word others. refl; matches = λ word others. refl }

runs : IsCommand (codes "run") run_items
runs = record { faults = λ word others. refl; matches = λ word others. refl }

replays : IsCommand (codes "replay") replay_items
replays = record { faults = λ word others. refl; matches = λ word others. refl }

loads : IsCommand (codes "load") load_items
loads = record { faults = λ word others. refl; matches = λ word others. refl }

-- ---- numbers

first_or : (numbers : List ℕ) (default : ℕ) → unwrap_or (head_of numbers) default ≡ slice_index_or numbers 0 default
first_or [] default = refl
first_or (number ∷ numbers) default = refl

same_limits : (choices : List Choice) → limits_given (head_of (numbers_for Fuel choices)) (head_of (numbers_for Tasks choices)) ≡ limits_of choices
same_limits choices =
    ap₂ (λ (f t : ℕ). record { fuel = f; tasks = t }) (first_or (numbers_for Fuel choices) default_fuel) (first_or (numbers_for Tasks choices) default_tasks)

-- a number that is read is a number that a text gives
gives : (setting : Setting) (uses : List Use) (o : Option ℕ) → number_in (number_for setting) (text_of (of setting) uses) ≡ Some o
    → (text : Text) → text_of (of setting) uses ≡ Some text → (number : ℕ) × (number_for setting text ≡ Some number)
gives setting uses o e text is =
    map_some (λ number. Some number) (number_for setting text) o (sym (ap (number_in (number_for setting)) is) ∙ e) (λ number fits same. (number, fits))

-- ---- the rows of each command, and what they give
module _ {items : List Item} {others : List Text} {rs : List Row} (t : Taken items others rs) where
  number_there : (setting : Setting) → number_given setting rs ≡ number_in (number_for setting) (text_of (of setting) t.more)
  number_there setting = number_is items others rs t.more t.rows_are setting

  choices_there : GiveNumbers items t.more → (choices : List Choice) × (all_chosen t.more ≡ Some choices)
  choices_there give = all_chosen_if items t.more t.distinct t.proper give

  same_number : (setting : Setting) (choices : List Choice) (o : Option ℕ) → all_chosen t.more ≡ Some choices → number_given setting rs ≡ Some o → o ≡ head_of (numbers_for setting choices)
  same_number setting choices o are e =
      same_Some o (head_of (numbers_for setting choices)) (sym e ∙ number_there setting ∙ numbers_are setting t.more choices are)

  same_workers : (choices : List Choice) (o : Option ℕ) → all_chosen t.more ≡ Some choices → number_given Workers rs ≡ Some o → unwrap_or o 0 ≡ number_or 0 Workers choices
  same_workers choices o are e = ap (λ (w : Option ℕ). unwrap_or w 0) (same_number Workers choices o are e) ∙ first_or (numbers_for Workers choices) 0

-- ---- what is read is meant

check_is_meant : (others : List Text) (command : Command) → has_end others ≡ false → parsed (codes "check") [] check_from (codes "check" ∷ others) ≡ Some command
    → Means (codes "check" ∷ others) command
check_is_meant others command ends e =
    let found = taken (codes "check") [] check_from (codes "check") others command checks ends e in
    let t = found.1 in
    let c = choices_there t (λ item among. elim among [ ]) in
    subst (λ (k : Command). Means (codes "check" ∷ others) k) (same_Some Check command found.2) (alone others c.0 (t.options c.0 c.1))
  where
    alone : (others : List Text) (choices : List Choice) → AreOptions [] others choices → Means (codes "check" ∷ others) Check
    alone [] choices no_more = words.Means.check
    alone others choices (value_beside setting value number among is rest) = elim among [ ]
    alone others choices (value_inside setting value number among is rest) = elim among [ ]
    alone others choices (flagged among rest) = elim among [ ]
    alone others choices (sized value number among is rest) = elim among [ ]

abbrev run_by : Option (Option ℕ) → Option (Option ℕ) → Option (Option ℕ) → Bool → Option Command
run_by w f t asked = option_and_then (λ workers. option_and_then (λ fuel. option_and_then (λ tasks. Some (Run (unwrap_or workers 0) (limits_given fuel tasks) asked)) t) f) w

run_is_meant : (others : List Text) (command : Command) → has_end others ≡ false → parsed (codes "run") run_items run_from (codes "run" ∷ others) ≡ Some command
    → Means (codes "run" ∷ others) command
run_is_meant others command ends e =
    let found = taken (codes "run") run_items run_from (codes "run") others command runs ends e in
    let rs = found.0 in
    let t = found.1 in
    option_and_then_some (λ workers. option_and_then (λ fuel. option_and_then (λ tasks. Some (Run (unwrap_or workers 0) (limits_given fuel tasks) (flag_given rs))) (number_given Tasks rs)) (number_given Fuel rs))
    (number_given Workers rs) command found.2 (λ workers workers_are more.
    option_and_then_some (λ fuel. option_and_then (λ tasks. Some (Run (unwrap_or workers 0) (limits_given fuel tasks) (flag_given rs))) (number_given Tasks rs))
    (number_given Fuel rs) command more (λ fuel fuel_is last.
    option_and_then_some (λ tasks. Some (Run (unwrap_or workers 0) (limits_given fuel tasks) (flag_given rs))) (number_given Tasks rs) command last (λ tasks tasks_are same.
    let c = choices_there t (give t.more workers fuel tasks (sym (number_there t Workers) ∙ workers_are) (sym (number_there t Fuel) ∙ fuel_is) (sym (number_there t Tasks) ∙ tasks_are)) in
    let limits = ap₂ limits_given (same_number t Fuel c.0 fuel c.1 fuel_is) (same_number t Tasks c.0 tasks c.1 tasks_are) ∙ same_limits c.0 in
    let asked = flag_value run_items rs t.more t.rows_are ∙ flag_is t.more c.0 c.1 in
    let crew = same_workers t c.0 workers c.1 workers_are in
    subst (Means (codes "run" ∷ others)) (sym (λ i. Run (crew i) (limits i) (asked i)) ∙ same_Some (Run (unwrap_or workers 0) (limits_given fuel tasks) (flag_given rs)) command same)
    (words.Means.run others c.0 (t.options c.0 c.1) (none_twice t.more c.0 t.distinct c.1)))))
  where
    give : (uses : List Use) (workers fuel tasks : Option ℕ) → number_in (number_for Workers) (text_of (of Workers) uses) ≡ Some workers
        → number_in (number_for Fuel) (text_of (of Fuel) uses) ≡ Some fuel → number_in (number_for Tasks) (text_of (of Tasks) uses) ≡ Some tasks → GiveNumbers run_items uses
    give uses w f t ew ef et (of Workers) among valued text is = gives Workers uses w ew text is
    give uses w f t ew ef et (of Fuel) among valued text is = gives Fuel uses f ef text is
    give uses w f t ew ef et (of Tasks) among valued text is = gives Tasks uses t et text is
    give uses w f t ew ef et flag among valued text is = absurd (true≢false (sym valued))
    give uses w f t ew ef et size (later (later (later (later among)))) valued text is = elim among [ ]

replay_is_meant : (others : List Text) (command : Command) → has_end others ≡ false → parsed (codes "replay") replay_items replay_from (codes "replay" ∷ others) ≡ Some command
    → Means (codes "replay" ∷ others) command
replay_is_meant others command ends e =
    let found = taken (codes "replay") replay_items replay_from (codes "replay") others command replays ends e in
    let rs = found.0 in
    let t = found.1 in
    option_and_then_some (λ fuel. option_and_then (λ tasks. Some (Replay (limits_given fuel tasks))) (number_given Tasks rs)) (number_given Fuel rs) command found.2 (λ fuel fuel_is last.
    option_and_then_some (λ tasks. Some (Replay (limits_given fuel tasks))) (number_given Tasks rs) command last (λ tasks tasks_are same.
    let c = choices_there t (give t.more fuel tasks (sym (number_there t Fuel) ∙ fuel_is) (sym (number_there t Tasks) ∙ tasks_are)) in
    let limits = ap₂ limits_given (same_number t Fuel c.0 fuel c.1 fuel_is) (same_number t Tasks c.0 tasks c.1 tasks_are) ∙ same_limits c.0 in
    subst (Means (codes "replay" ∷ others)) (sym (ap (λ (lim : Bounds). Replay lim) limits) ∙ same_Some (Replay (limits_given fuel tasks)) command same)
    (words.Means.replay others c.0 (t.options c.0 c.1) (none_twice t.more c.0 t.distinct c.1))))
  where
    give : (uses : List Use) (fuel tasks : Option ℕ) → number_in (number_for Fuel) (text_of (of Fuel) uses) ≡ Some fuel
        → number_in (number_for Tasks) (text_of (of Tasks) uses) ≡ Some tasks → GiveNumbers replay_items uses
    give uses f t ef et (of Workers) (later (later among)) valued text is = elim among [ ]
    give uses f t ef et (of Fuel) among valued text is = gives Fuel uses f ef text is
    give uses f t ef et (of Tasks) among valued text is = gives Tasks uses t et text is
    give uses f t ef et flag among valued text is = absurd (true≢false (sym valued))
    give uses f t ef et size (later (later among)) valued text is = elim among [ ]

load_is_meant : (others : List Text) (command : Command) → has_end others ≡ false → parsed (codes "load") load_items load_from (codes "load" ∷ others) ≡ Some command
    → Means (codes "load" ∷ others) command
load_is_meant others command ends e =
    let found = taken (codes "load") load_items load_from (codes "load") others command loads ends e in
    let rs = found.0 in
    let t = found.1 in
    option_and_then_some (λ workers. option_and_then (λ n. Some (Load (unwrap_or workers 0) n)) (size_given rs)) (number_given Workers rs) command found.2 (λ workers workers_are last.
    option_and_then_some (λ n. Some (Load (unwrap_or workers 0) n)) (size_given rs) command last (λ n n_is same.
    let sized_so = sym (size_value load_items rs t.more t.rows_are) ∙ n_is in
    let c = choices_there t (give t.more workers n (sym (number_there t Workers) ∙ workers_are) sized_so) in
    let once = none_twice t.more c.0 t.distinct c.1 in
    let crew = same_workers t c.0 workers c.1 workers_are in
    subst (Means (codes "load" ∷ others)) (sym (ap (λ (w : ℕ). Load w n) crew) ∙ same_Some (Load (unwrap_or workers 0) n) command same)
    (words.Means.load others c.0 n (t.options c.0 c.1) once (one_size (sizes c.0) n once.size (sym (size_is t.more c.0 c.1) ∙ sized_so)))))
  where
    give : (uses : List Use) (workers : Option ℕ) (n : ℕ) → number_in (number_for Workers) (text_of (of Workers) uses) ≡ Some workers
        → option_and_then size_in (text_of size uses) ≡ Some n → GiveNumbers load_items uses
    give uses w n ew en (of Workers) among valued text is = gives Workers uses w ew text is
    give uses w n ew en (of Fuel) (later (later among)) valued text is = elim among [ ]
    give uses w n ew en (of Tasks) (later (later among)) valued text is = elim among [ ]
    give uses w n ew en flag among valued text is = absurd (true≢false (sym valued))
    give uses w n ew en size among valued text is = (n, sym (ap (option_and_then size_in) is) ∙ en)

    one_size : (numbers : List ℕ) (n : ℕ) → length numbers ≤ 1 → head_of numbers ≡ Some n → numbers ≡ n ∷ []
    one_size [] n few e = absurd (none-some n e)
    one_size (number ∷ []) n few e = ap (λ (k : ℕ). k ∷ []) (same_Some number n e)
    one_size (number ∷ other ∷ numbers) n few e = absurd (omega arith)

-- ---- what is meant is read

no_end_after : (word : Text) (others : List Text) → bytes_eq word (codes "--") ≡ false → has_end others ≡ false → has_end (word ∷ others) ≡ false
no_end_after word others differs ends = ap (λ (b : Bool). b || has_end others) differs ∙ ends

abbrev unless_end : Bool → Option Command → Option Command
unless_end b o = cond b None o

is_read : {them : List Text} {command : Command} → Means them command → command_of them ≡ Some command
is_read words.Means.check =
    let f = found (codes "check") [] (codes "check") [] [] checks no_more (record { settings = λ setting. omega arith; flag = omega arith; size = omega arith }) in
    f.reads check_from refl
is_read (words.Means.run others choices options once) =
    let f = found (codes "run") run_items (codes "run") others choices runs options once in
    let rs = fold with_default (rows f.uses) (rules run_items) in
    let number = λ (setting : Setting). number_is run_items others rs f.uses refl setting ∙ numbers_are setting f.uses choices f.are in
    ap (λ (b : Bool). unless_end b (first_named (codes "run" ∷ others))) (no_end_after (codes "run") others refl f.ends)
    ∙ f.reads run_from refl
    ∙ ap (λ (o : Option (Option ℕ)). run_by o (number_given Fuel rs) (number_given Tasks rs) (flag_given rs)) (number Workers)
    ∙ ap (λ (o : Option (Option ℕ)). run_by (Some (head_of (numbers_for Workers choices))) o (number_given Tasks rs) (flag_given rs)) (number Fuel)
    ∙ ap (λ (o : Option (Option ℕ)). run_by (Some (head_of (numbers_for Workers choices))) (Some (head_of (numbers_for Fuel choices))) o (flag_given rs)) (number Tasks)
    ∙ (let asked = flag_value run_items rs f.uses refl ∙ flag_is f.uses choices f.are in
    λ i. Some (Run (first_or (numbers_for Workers choices) 0 i) (same_limits choices i) (asked i)))
is_read (words.Means.replay others choices options once) =
    let f = found (codes "replay") replay_items (codes "replay") others choices replays options once in
    let rs = fold with_default (rows f.uses) (rules replay_items) in
    let number = λ (setting : Setting). number_is replay_items others rs f.uses refl setting ∙ numbers_are setting f.uses choices f.are in
    ap (λ (b : Bool). unless_end b (first_named (codes "replay" ∷ others))) (no_end_after (codes "replay") others refl f.ends)
    ∙ f.reads replay_from refl
    ∙ ap (λ (o : Option (Option ℕ)). option_and_then (λ fuel. option_and_then (λ tasks. Some (Replay (limits_given fuel tasks))) (number_given Tasks rs)) o) (number Fuel)
    ∙ ap (λ (o : Option (Option ℕ)). option_and_then (λ tasks. Some (Replay (limits_given (head_of (numbers_for Fuel choices)) tasks))) o) (number Tasks)
    ∙ ap (λ (lim : Bounds). Some (Replay lim)) (same_limits choices)
is_read (words.Means.load others choices n options once one) =
    let f = found (codes "load") load_items (codes "load") others choices loads options once in
    let rs = fold with_default (rows f.uses) (rules load_items) in
    let sized_so : option_and_then size_in (text_of size f.uses) ≡ Some n = size_is f.uses choices f.are ∙ ap head_of one in
    ap (λ (b : Bool). unless_end b (first_named (codes "load" ∷ others))) (no_end_after (codes "load") others refl f.ends)
    ∙ f.reads load_from (option_and_then_some size_in (text_of size f.uses) n sized_so (λ text is number. needs rs (size_is_given load_items f.uses text is)))
    ∙ ap (λ (o : Option (Option ℕ)). option_and_then (λ workers. option_and_then (λ k. Some (Load (unwrap_or workers 0) k)) (size_given rs)) o)
    (number_is load_items others rs f.uses refl Workers ∙ numbers_are Workers f.uses choices f.are)
    ∙ ap (option_and_then (λ k. Some (Load (unwrap_or (head_of (numbers_for Workers choices)) 0) k))) (size_value load_items rs f.uses refl ∙ sized_so)
    ∙ ap (λ (w : ℕ). Some (Load w n)) (first_or (numbers_for Workers choices) 0)
  where
    needs : (rs : List Row) → is_given (id size) rs ≡ true → check_fault (shape (codes "load") load_items) rs false ≡ []
    needs rs given = rw given refl

-- ---- the list of words

from_first : (word : Text) (others : List Text) (command : Command) → has_end others ≡ false → named word (word ∷ others) ≡ Some command → Means (word ∷ others) command
from_first word others command ends e = by_check (bytes_eq word (codes "check")) refl e
  where
    as_named : (name : Text) → bytes_eq word name ≡ true → (from : List Text → Option Command) → from (word ∷ others) ≡ Some command
        → (from (name ∷ others) ≡ Some command → Means (name ∷ others) command) → Means (word ∷ others) command
    as_named name same from e meant =
        let is = (bytes_eq-Decides word name).0 same in
        subst (λ (w : Text). Means (w ∷ others) command) (sym is) (meant (subst (λ (w : Text). from (w ∷ others) ≡ Some command) is e))

    by_load : (b : Bool) → bytes_eq word (codes "load") ≡ b → cond b (parsed (codes "load") load_items load_from (word ∷ others)) None ≡ Some command → Means (word ∷ others) command
    by_load true same e = as_named (codes "load") same (parsed (codes "load") load_items load_from) e (load_is_meant others command ends)
    by_load false same e = absurd (none-some command e)

    by_replay : (b : Bool) → bytes_eq word (codes "replay") ≡ b
        → cond b (parsed (codes "replay") replay_items replay_from (word ∷ others)) (cond (bytes_eq word (codes "load")) (parsed (codes "load") load_items load_from (word ∷ others)) None) ≡ Some command
        → Means (word ∷ others) command
    by_replay true same e = as_named (codes "replay") same (parsed (codes "replay") replay_items replay_from) e (replay_is_meant others command ends)
    by_replay false same e = by_load (bytes_eq word (codes "load")) refl e

    by_run : (b : Bool) → bytes_eq word (codes "run") ≡ b
        → cond b (parsed (codes "run") run_items run_from (word ∷ others)) (cond (bytes_eq word (codes "replay")) (parsed (codes "replay") replay_items replay_from (word ∷ others))
        (cond (bytes_eq word (codes "load")) (parsed (codes "load") load_items load_from (word ∷ others)) None)) ≡ Some command
        → Means (word ∷ others) command
    by_run true same e = as_named (codes "run") same (parsed (codes "run") run_items run_from) e (run_is_meant others command ends)
    by_run false same e = by_replay (bytes_eq word (codes "replay")) refl e

    by_check : (b : Bool) → bytes_eq word (codes "check") ≡ b
        → cond b (parsed (codes "check") [] check_from (word ∷ others)) (cond (bytes_eq word (codes "run")) (parsed (codes "run") run_items run_from (word ∷ others))
        (cond (bytes_eq word (codes "replay")) (parsed (codes "replay") replay_items replay_from (word ∷ others))
        (cond (bytes_eq word (codes "load")) (parsed (codes "load") load_items load_from (word ∷ others)) None))) ≡ Some command
        → Means (word ∷ others) command
    by_check true same e = as_named (codes "check") same (parsed (codes "check") [] check_from) e (check_is_meant others command ends)
    by_check false same e = by_run (bytes_eq word (codes "run")) refl e

is_meant : (them : List Text) (command : Command) → command_of them ≡ Some command → Means them command
is_meant them command e = by_end (has_end them) refl e
  where
    by_words : (them : List Text) → has_end them ≡ false → first_named them ≡ Some command → Means them command
    by_words [] ends e = absurd (none-some command e)
    by_words (word ∷ others) ends e = from_first word others command (later_ends (bytes_eq word (codes "--")) (has_end others) ends) e
      where
        later_ends : (a b : Bool) → (a || b) ≡ false → b ≡ false
        later_ends true b e = absurd (true≢false e)
        later_ends false b e = e

    by_end : (b : Bool) → has_end them ≡ b → cond b None (first_named them) ≡ Some command → Means them command
    by_end true ends e = absurd (none-some command e)
    by_end false ends e = by_words them ends e

pub is_meaning : (them : List Text) (meaning : Option Command) → command_of them ≡ meaning → IsMeaning them meaning
is_meaning them (Some command) e = is_meant them command e
is_meaning them None e = λ command means. none-some command (sym e ∙ is_read means)

pub is_reading : (them : List Text) (r : Result Command WordsFail) → IsRead (command_of them) r → IsReading them r
is_reading them (Ok command) e = is_meant them command e
is_reading them (Err Usage) e = is_meaning them None e
is_reading them (Err (OutOfMemory memory)) e = tt

pub every_list_is_decided : (them : List Text) → (meaning : Option Command) × IsMeaning them meaning
every_list_is_decided them = (command_of them, is_meaning them (command_of them) refl)

pub one_command : (them : List Text) (command other : Command) → Means them command → Means them other → command ≡ other
one_command them command other one two = same_Some command other (sym (is_read one) ∙ is_read two)
