-- What is read of the matches, and of a parse that failed.
use Rattle.std.proofs.Common.{◌≡◌, ◌≢◌, inl, inr, List, [], ◌∷◌, false, cond, codes, Option, None, Result, Ok, Err, IsErrAnd, option_and_then, arith, length, refl, sym, ap, ◌∙◌, subst}
use Rattle.std.specs.Option.{option_map_or}
use Rattle.std.specs.Str.{bytes_eq}
use Rattle.clap.specs.Walk.{Row, Text, rows_of}
use Rattle.clap.specs.Matches.{first_value, found_of}
use Rattle.clap.specs.Simple.{App, matches_of}
use Rattle.clap.specs.Kinds.{HasKind, IsAmong, Kinds}
use Rattle.clap.specs.Values.{kind_of}
use Rattle.clap.specs.Faults.{fault_of}
use Rattle.clap.specs.declared.error.Error.{Error}
use Rattle.clap.specs.declared.error.kind.ErrorKind.{ErrorKind}
use Rattle.clap.specs.declared.error.kind.ErrorKind.TheVariants as kind
use Rattle.clap.specs.declared.parser.matches.ArgMatches.{ArgMatches}
use Rattle.clap.specs.declared.parser.matches.Found.{Found}
use Rattle.clap.proofs.WalkLemmas.{first_value-rows}
use Rattle.command_line.specs.declared.command.Command.{Command}
use Rattle.command_line.specs.declared.command.WordsFail.{WordsFail}
use Rattle.command_line.specs.declared.command.WordsFail.TheVariants.{Usage, OutOfMemory}
use Rattle.command_line.specs.declared.setting.Setting.{Setting}
use Rattle.command_line.specs.Options.{Item, of, number_for, size_in}
use Rattle.command_line.specs.inner.Reading.{id, app_for, HasRows, IsRead, faultless, number_in, number_given, flag_given, size_given, parsed}

-- ---- values

pub number_of_value : (setting : Setting) (f : Found) (name : Text) (value : Option Text) → name ≡ id (of setting) → first_value f name ≡ value
    → number_given setting (rows_of f) ≡ number_in (number_for setting) value
number_of_value setting f name value is found =
    ap (number_in (number_for setting)) (sym (first_value-rows f (id (of setting))) ∙ ap (first_value f) (sym is) ∙ found)

pub flag_of_value : (f : Found) (value : Option Text) → first_value f (codes "journal") ≡ value → flag_given (rows_of f) ≡ option_map_or (λ text. bytes_eq text (codes "true")) value false
flag_of_value f value found =
    ap (λ (o : Option Text). option_map_or (λ text. bytes_eq text (codes "true")) o false) (sym (first_value-rows f (codes "journal")) ∙ found)

pub size_of_value : (f : Found) (value : Option Text) → first_value f (codes "N") ≡ value → size_given (rows_of f) ≡ option_and_then size_in value
size_of_value f value found = ap (option_and_then size_in) (sym (first_value-rows f (codes "N")) ∙ found)

-- ---- failures

none_among : (kinds : Kinds) (k : ErrorKind) → IsAmong k kinds → kinds ≡ [] → ⊥
none_among [] k among e = among
none_among (x ∷ xs) k among e = absurd (omega (arith, ap (λ (ks : Kinds). length ks) e))

pub failed : (app : App) (words : List Text) (fail : WordsFail) (error : Error) → HasKind (fault_of app words) error → (fail ≡ Usage → kind_of error ≢ kind.OutOfMemory)
    → HasRows app words (Err fail)
failed app words Usage error (inl memory) not_memory = absurd (not_memory refl memory)
failed app words Usage error (inr among) not_memory = none_among (fault_of app words) (kind_of error) among
failed app words (OutOfMemory memory) error has not_memory = tt

-- `?` passes a failure up as it is
pub passed_up : (o : Option Command) (r : Result Command WordsFail) (fail : WordsFail) → IsErrAnd r (λ e. e ≡ fail) → IsRead {T = Command} o (Err fail) → IsRead o r
passed_up o (Ok x) fail is read = absurd is
passed_up o (Err e) fail is read = subst (λ (f : WordsFail). IsRead {T = Command} o (Err f)) (sym is) read

unless_faultless : (kinds : Kinds) (o : Option Command) → (kinds ≡ [] → ⊥) → cond (faultless kinds) o None ≡ None
unless_faultless [] o some = absurd (some refl)
unless_faultless (k ∷ ks) o some = refl

-- words that `clap` refuses are not read
pub unread : (name : Text) (items : List Item) (from : List Row → Option Command) (words : List Text) (app : App) (fail : WordsFail) → app ≡ app_for name items
    → HasRows app words (Err fail) → IsRead {T = Command} (parsed name items from words) (Err fail)
unread name items from words app Usage is has =
    unless_faultless (fault_of (app_for name items) words) (from (matches_of (app_for name items) words)) (subst (λ (a : App). fault_of a words ≡ [] → ⊥) is has)
unread name items from words app (OutOfMemory memory) is has = tt

-- words that `clap` takes are read as its matches are
pub read_so : (name : Text) (items : List Item) (from : List Row → Option Command) (words : List Text) (app : App) (m : ArgMatches) (r : Result Command WordsFail) → app ≡ app_for name items
    → HasRows app words (Ok m) → IsRead (from (rows_of (found_of m))) r → IsRead (parsed name items from words) r
read_so name items from words app m r is has read =
    let there = subst (λ (a : App). HasRows a words (Ok m)) is has in
    subst (λ (o : Option Command). IsRead o r)
    (ap from there.1 ∙ sym (ap (λ (kinds : Kinds). cond (faultless kinds) (from (matches_of (app_for name items) words)) None) there.0)) read
