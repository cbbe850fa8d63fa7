-- What `clap` makes of the words of a command: options, or a fault.
use Rattle.std.proofs.Common.{◌≡◌, ◌≤◌, List, [], ◌∷◌, Bool, true, false, cond, fold, find, inl, is_some, Option, None, Some, codes, option_and_then, refl, sym, ap, ◌∙◌, subst, arith, true≢false}
use Rattle.std.specs.Option.{option_map_or}
use Rattle.std.specs.Str.{bytes_eq}
use Rattle.std.proofs.lemmas.Option.{none-some}
use Rattle.clap.specs.Walk.{Row, Text, finished, nothing_held, settled, walk, with_default}
use Rattle.clap.specs.Simple.{App, entered, matches_of}
use Rattle.clap.specs.Facts.{explicit_source}
use Rattle.clap.specs.Takes.{is_given}
use Rattle.clap.specs.Kinds.{Kinds, or_else}
use Rattle.clap.specs.Faults.{built_fault, check_fault, defaults_fault, entered_fault, fault_of, level_fault, settle_fault, walk_fault}
use Rattle.command_line.specs.declared.command.Command.{Command}
use Rattle.command_line.specs.declared.setting.Setting.{Setting}
use Rattle.command_line.specs.Options.{Item, of, flag, size, Choice, AreOptions, NoneTwice, number_for, size_in}
use Rattle.command_line.specs.inner.Reading.{id, app_for, has_end, faultless, parsed, number_given, number_in, flag_given, size_given}
use Rattle.command_line.proofs.Lookups.{rules}
use Rattle.command_line.proofs.Rows.{Use, row, rows, both_empty, passes_both}
use Rattle.command_line.proofs.Turns.{shape, none, as_they_are}
use Rattle.command_line.proofs.Uses.{Distinct, all_chosen, same_times, settings_times, flag_times, size_times, times_chosen}
use Rattle.command_line.proofs.Sound.{comes}
use Rattle.command_line.proofs.Cuts.{Proper, read_options, read_distinct}
use Rattle.command_line.proofs.Finds.{text_of, first_is}
use Rattle.command_line.proofs.Defaults.{found_kept, first_kept, flag_kept, defaults_pass}
use Rattle.command_line.proofs.Complete.{done, Passes}

-- the command as `clap` builds it
abbrev pub app : Text → List Item → App
app name items = record { top = shape name items; subs = [] }

-- `clap` builds this command, and reads the words after the first
pub record IsCommand (name : Text) (items : List Item) : Type 0 where
  pub faults : (word : Text) (words : List Text) → fault_of (app_for name items) (word ∷ words) ≡ built_fault (app name items) nothing_held words
  pub matches : (word : Text) (words : List Text) → matches_of (app_for name items) (word ∷ words) ≡ finished (rules items) (walk (rules items) [] nothing_held words).held

-- ---- words without a fault

-- the words are options, and these are the rows
pub record Taken (items : List Item) (words : List Text) (rs : List Row) : Type 0 where
  pub more : List Use
  pub proper : Proper items more
  pub distinct : Distinct more
  pub options : (choices : List Choice) → all_chosen more ≡ Some choices → AreOptions items words choices
  pub rows_are : rs ≡ fold with_default (rows more) (rules items)

taken_words : (name : Text) (items : List Item) (words : List Text) → has_end words ≡ false → built_fault (app name items) nothing_held words ≡ []
    → Taken items words (finished (rules items) (walk (rules items) [] nothing_held words).held)
taken_words name items words ends e =
    let w = walk (rules items) [] nothing_held words in
    let last = or_else (defaults_fault (settled (rules items) w.held).rows (rules items)) (check_fault (shape name items) (finished (rules items) w.held) (is_some (entered (app name items) w.stopped))) in
    let one = both_empty (walk_fault (shape name items) [] (walk (rules items) [] nothing_held []) words)
    (or_else (entered_fault (app name items) w.stopped) (or_else (settle_fault (rules items) false w.held) last)) e in
    let two = both_empty (entered_fault (app name items) w.stopped) (or_else (settle_fault (rules items) false w.held) last) one.1 in
    let three = both_empty (settle_fault (rules items) false w.held) last two.1 in
    let c = comes name items words [] none 1 tt (inl refl) ends one.0 three.0 in
    let cut = read_options c.reads in
    record {
      more = cut.more;
      proper = cut.proper;
      distinct = subst Distinct cut.are (read_distinct c.reads (λ item. omega arith));
      options = cut.options;
      rows_are = ap (λ (rs : List Row). fold with_default rs (rules items)) (c.rows_are ∙ ap rows cut.are);
    }

if_some : {T : Type 0} (b : Bool) (o : Option T) (y : T) → cond b o None ≡ Some y → (b ≡ true) × (o ≡ Some y)
if_some true o y e = (refl, e)
if_some false o y e = absurd (none-some y e)

no_kinds : (kinds : Kinds) → faultless kinds ≡ true → kinds ≡ []
no_kinds [] e = refl
no_kinds (k ∷ ks) e = absurd (true≢false (sym e))

-- a command that is read has its rows
pub taken : (name : Text) (items : List Item) (from : List Row → Option Command) (word : Text) (words : List Text) (command : Command) → IsCommand name items → has_end words ≡ false
    → parsed name items from (word ∷ words) ≡ Some command → (rs : List Row) × Taken items words rs × (from rs ≡ Some command)
taken name items from word words command is ends e =
    let parts = if_some (faultless (fault_of (app_for name items) (word ∷ words))) (from (matches_of (app_for name items) (word ∷ words))) command e in (
      finished (rules items) (walk (rules items) [] nothing_held words).held,
      taken_words name items words ends (sym (is.faults word words) ∙ no_kinds (fault_of (app_for name items) (word ∷ words)) parts.0),
      sym (ap from (is.matches word words)) ∙ parts.1,
    )

-- ---- what the rows give

pub number_is : (items : List Item) (words : List Text) (rs : List Row) (uses : List Use) → rs ≡ fold with_default (rows uses) (rules items) → (setting : Setting)
    → number_given setting rs ≡ number_in (number_for setting) (text_of (of setting) uses)
number_is items words rs uses are setting =
    ap (number_given setting) are ∙ ap (number_in (number_for setting)) (first_kept items (of setting) (rows uses) refl ∙ first_is (of setting) uses)

pub flag_value : (items : List Item) (rs : List Row) (uses : List Use) → rs ≡ fold with_default (rows uses) (rules items)
    → flag_given rs ≡ option_map_or (λ text. bytes_eq text (codes "true")) (text_of flag uses) false
flag_value items rs uses are =
    ap flag_given are ∙ flag_kept items (rows uses) ∙ ap (λ (o : Option Text). option_map_or (λ text. bytes_eq text (codes "true")) o false) (first_is flag uses)

pub size_value : (items : List Item) (rs : List Row) (uses : List Use) → rs ≡ fold with_default (rows uses) (rules items)
    → size_given rs ≡ option_and_then size_in (text_of size uses)
size_value items rs uses are = ap size_given are ∙ ap (option_and_then size_in) (first_kept items size (rows uses) refl ∙ first_is size uses)

-- ---- options are read

pub none_twice : (uses : List Use) (choices : List Choice) → Distinct uses → all_chosen uses ≡ Some choices → NoneTwice choices
none_twice uses choices distinct are = record {
  settings = λ setting. omega (arith, distinct (of setting), same_times uses choices (of setting) are, settings_times setting choices);
  flag = omega (arith, distinct flag, same_times uses choices flag are, flag_times choices);
  size = omega (arith, distinct size, same_times uses choices size are, size_times choices);
}

room : (choices : List Choice) → NoneTwice choices → (item : Item) → times_chosen item choices ≤ 1
room choices once (of setting) = omega (arith, once.settings setting, settings_times setting choices)
room choices once flag = omega (arith, once.flag, flag_times choices)
room choices once size = omega (arith, once.size, size_times choices)

-- the size of a load is given
given_if : (uses : List Use) (text : Text) → text_of size uses ≡ Some text → is_given (id size) (rows uses) ≡ true
given_if [] text e = absurd (none-some text e)
given_if (u ∷ uses) text e = by_test (given_if uses text) (bytes_eq (id u.0) (id size)) e
  where
    by_test : (text_of size uses ≡ Some text → is_given (id size) (rows uses) ≡ true) → (b : Bool) → cond b (Some u.1) (text_of size uses) ≡ Some text
        → option_map_or (λ (r : Row). explicit_source r.source) (cond b (Some (row u)) (find (λ (r : Row). bytes_eq r.id (id size)) (rows uses))) false ≡ true
    by_test more true e = refl
    by_test more false e = more e

pub size_is_given : (items : List Item) (uses : List Use) (text : Text) → text_of size uses ≡ Some text → is_given (id size) (fold with_default (rows uses) (rules items)) ≡ true
size_is_given items uses text e =
    ap (λ (o : Option Row). option_map_or (λ (r : Row). explicit_source r.source) o false) (found_kept items size (rows uses) refl) ∙ given_if uses text e

-- the kinds of error, by the subcommand at which the walk stops
abbrev fault_with : Text → List Item → List Text → Option (Text × List Text) → Kinds
fault_with name items words stop = level_fault (shape name items) [] nothing_held words (is_some (entered (app name items) stop)) (entered_fault (app name items) stop)

-- `clap` takes options, and these are its rows
pub record Found (name : Text) (items : List Item) (word : Text) (words : List Text) (choices : List Choice) : Type 0 where
  pub uses : List Use
  pub are : all_chosen uses ≡ Some choices
  pub ends : has_end words ≡ false
  pub reads : (from : List Row → Option Command) → check_fault (shape name items) (fold with_default (rows uses) (rules items)) false ≡ []
      → parsed name items from (word ∷ words) ≡ from (fold with_default (rows uses) (rules items))

pub found : (name : Text) (items : List Item) (word : Text) (words : List Text) (choices : List Choice) → IsCommand name items → AreOptions items words choices → NoneTwice choices
    → Found name items word words choices
found name items word words choices is options once =
    let d = done name items options [] none 1 [] tt as_they_are (λ item. omega (arith, room choices once item)) (λ unused. refl) in
    let p = d.passes in
    let rows_are : finished (rules items) (walk (rules items) [] nothing_held words).held ≡ fold with_default (rows d.more) (rules items) =
    ap (λ (rs : List Row). fold with_default rs (rules items)) p.rows_are in
    record {
      uses = d.more;
      are = d.are;
      ends = p.ends;
      reads = λ from checks.
          let passes : fault_of (app_for name items) (word ∷ words) ≡ [] = is.faults word words ∙ all_pass d.more p (ap (λ (rs : List Row). check_fault (shape name items) rs false) rows_are ∙ checks) in
          ap (λ (kinds : Kinds). cond (faultless kinds) (from (matches_of (app_for name items) (word ∷ words))) None) passes ∙ ap from (is.matches word words ∙ rows_are);
    }
  where
    all_pass : (uses : List Use) → Passes name items [] none 1 words uses
        → check_fault (shape name items) (finished (rules items) (walk (rules items) [] nothing_held words).held) false ≡ [] → built_fault (app name items) nothing_held words ≡ []
    all_pass uses p checks =
        ap (fault_with name items words) p.goes_on
        ∙ passes_both (walk_fault (shape name items) [] (walk (rules items) [] nothing_held []) words) _ p.faults
        (passes_both (settle_fault (rules items) false (walk (rules items) [] nothing_held words).held) _ p.settles
        (passes_both (defaults_fault (settled (rules items) (walk (rules items) [] nothing_held words).held).rows (rules items)) _
        (defaults_pass items (settled (rules items) (walk (rules items) [] nothing_held words).held).rows) checks))
