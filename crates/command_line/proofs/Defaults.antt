-- The defaults that `clap` adds change nothing that is read of the rows, and none of them fails.
use Rattle.std.proofs.Common.{◌≡◌, ◌||◌, List, [], ◌∷◌, ◌++◌, Bool, true, false, cond, find, fold, Option, None, Some, codes, slice_get, option_and_then, refl, sym, ap, ◌∙◌, true≢false}
use Rattle.std.specs.Option.{option_map_or, option_or}
use Rattle.std.specs.Str.{bytes_eq}
use Rattle.std.proofs.lemmas.List.Folds.{find-append}
use Rattle.clap.specs.Walk.{Row, Text, first_of, has_row, more_values, reading_by, with_default, with_values}
use Rattle.clap.specs.Faults.{default_fault, defaults_fault, given_default_fault}
use Rattle.clap.specs.Kinds.{Kinds}
use Rattle.clap.specs.declared.parser.matches.ValueSource.TheVariants.{DefaultValue}
use Rattle.command_line.specs.declared.setting.Setting.TheVariants.{Workers, Fuel, Tasks}
use Rattle.command_line.specs.Options.{Item, of, flag, size}
use Rattle.command_line.specs.inner.Reading.{id, flag_given}
use Rattle.command_line.proofs.Lookups.{rule, rules}
use Rattle.command_line.proofs.Rows.{is_valued, at_missing, passes_both}

abbrev has_id : Item → Row → Bool
has_id item r = bytes_eq r.id (id item)

same_either : {T : Type 0} (b : Bool) (x : T) → cond b x x ≡ x
same_either true x = refl
same_either false x = refl

or_none : {T : Type 0} (o : Option T) → option_or o None ≡ o
or_none None = refl
or_none (Some x) = refl

-- an item that takes a text has no default
no_default : (item : Item) (rs : List Row) → is_valued item ≡ true → with_default rs (rule item) ≡ rs
no_default (of Workers) rs valued = same_either (has_row (id (of Workers)) rs) rs
no_default (of Fuel) rs valued = same_either (has_row (id (of Fuel)) rs) rs
no_default (of Tasks) rs valued = same_either (has_row (id (of Tasks)) rs) rs
no_default flag rs valued = absurd (true≢false (sym valued))
no_default size rs valued = same_either (has_row (id size) rs) rs

-- the default of the flag
abbrev unset : Row
unset = record { id = id flag; values = codes "false" ∷ []; count = None; source = Some DefaultValue; reading = reading_by (rule flag) }

abbrev flag_default : Bool → List Row → List Row
flag_default b rs = cond b rs (with_values (id flag) (reading_by (rule flag)) DefaultValue (codes "false" ∷ []) rs)

flag_is_added : (rs : List Row) → has_row (id flag) rs ≡ false → flag_default false rs ≡ rs ++ unset ∷ []
flag_is_added rs e = at_missing (id flag) (more_values DefaultValue (codes "false" ∷ [])) (unset ∷ []) rs e

other_id : (item : Item) → is_valued item ≡ true → find (has_id item) (unset ∷ []) ≡ None
other_id (of Workers) valued = refl
other_id (of Fuel) valued = refl
other_id (of Tasks) valued = refl
other_id flag valued = absurd (true≢false (sym valued))
other_id size valued = refl

flag_keeps : (item : Item) (rs : List Row) → is_valued item ≡ true → find (has_id item) (with_default rs (rule flag)) ≡ find (has_id item) rs
flag_keeps item rs valued = by_test (has_row (id flag) rs) refl
  where
    by_test : (b : Bool) → has_row (id flag) rs ≡ b → find (has_id item) (flag_default b rs) ≡ find (has_id item) rs
    by_test true has = refl
    by_test false lacks =
        ap (find (has_id item)) (flag_is_added rs lacks) ∙ find-append (has_id item) rs (unset ∷ [])
        ∙ ap (option_or (find (has_id item) rs)) (other_id item valued) ∙ or_none (find (has_id item) rs)

one_kept : (item other : Item) (rs : List Row) → is_valued item ≡ true → find (has_id item) (with_default rs (rule other)) ≡ find (has_id item) rs
one_kept item (of setting) rs valued = ap (find (has_id item)) (no_default (of setting) rs refl)
one_kept item flag rs valued = flag_keeps item rs valued
one_kept item size rs valued = ap (find (has_id item)) (no_default size rs refl)

pub found_kept : (items : List Item) (item : Item) (rs : List Row) → is_valued item ≡ true → find (has_id item) (fold with_default rs (rules items)) ≡ find (has_id item) rs
found_kept [] item rs valued = refl
found_kept (other ∷ items) item rs valued = found_kept items item (with_default rs (rule other)) valued ∙ one_kept item other rs valued

pub first_kept : (items : List Item) (item : Item) (rs : List Row) → is_valued item ≡ true → first_of (id item) (fold with_default rs (rules items)) ≡ first_of (id item) rs
first_kept items item rs valued = ap (option_and_then (λ (r : Row). slice_get r.values 0)) (found_kept items item rs valued)

-- the flag that is unset is no flag
none_found : (name : Text) (rs : List Row) → has_row name rs ≡ false → find (λ (r : Row). bytes_eq r.id name) rs ≡ None
none_found name [] e = refl
none_found name (r ∷ rs) e = by_test (none_found name rs) (bytes_eq r.id name) e
  where
    by_test : (has_row name rs ≡ false → find (λ (q : Row). bytes_eq q.id name) rs ≡ None) → (b : Bool) → (b || has_row name rs) ≡ false → cond b (Some r) (find (λ (q : Row). bytes_eq q.id name) rs) ≡ None
    by_test more true e = absurd (true≢false e)
    by_test more false e = more e

abbrev flag_in : Option Row → Bool
flag_in o = option_map_or (λ text. bytes_eq text (codes "true")) (option_and_then (λ (r : Row). slice_get r.values 0) o) false

flag_kept_once : (rs : List Row) → flag_given (with_default rs (rule flag)) ≡ flag_given rs
flag_kept_once rs = by_test (has_row (id flag) rs) refl
  where
    by_test : (b : Bool) → has_row (id flag) rs ≡ b → flag_given (flag_default b rs) ≡ flag_given rs
    by_test true has = refl
    by_test false lacks =
        ap flag_given (flag_is_added rs lacks) ∙ ap flag_in (find-append (has_id flag) rs (unset ∷ []))
        ∙ ap (λ (o : Option Row). flag_in (option_or o (Some unset))) (none_found (id flag) rs lacks) ∙ sym (ap flag_in (none_found (id flag) rs lacks))

flag_kept_by : (other : Item) (rs : List Row) → flag_given (with_default rs (rule other)) ≡ flag_given rs
flag_kept_by (of setting) rs = ap flag_given (no_default (of setting) rs refl)
flag_kept_by flag rs = flag_kept_once rs
flag_kept_by size rs = ap flag_given (no_default size rs refl)

pub flag_kept : (items : List Item) (rs : List Row) → flag_given (fold with_default rs (rules items)) ≡ flag_given rs
flag_kept [] rs = refl
flag_kept (other ∷ items) rs = flag_kept items (with_default rs (rule other)) ∙ flag_kept_by other rs

-- ---- no default fails

either_passes : (b : Bool) (kinds : Kinds) → cond (b || true) [] kinds ≡ []
either_passes true kinds = refl
either_passes false kinds = refl

flag_passes : (b : Bool) → cond (b || false) [] (given_default_fault (rule flag) (codes "false" ∷ [])) ≡ []
flag_passes true = refl
flag_passes false = refl

one_passes : (item : Item) (rs : List Row) → default_fault rs (rule item) ≡ []
one_passes (of Workers) rs = either_passes (has_row (id (of Workers)) rs) (given_default_fault (rule (of Workers)) [])
one_passes (of Fuel) rs = either_passes (has_row (id (of Fuel)) rs) (given_default_fault (rule (of Fuel)) [])
one_passes (of Tasks) rs = either_passes (has_row (id (of Tasks)) rs) (given_default_fault (rule (of Tasks)) [])
one_passes flag rs = flag_passes (has_row (id flag) rs)
one_passes size rs = either_passes (has_row (id size) rs) (given_default_fault (rule size) [])

pub defaults_pass : (items : List Item) (rs : List Row) → defaults_fault rs (rules items) ≡ []
unfolding defaults_fault
defaults_pass [] rs = refl
defaults_pass (item ∷ items) rs =
    passes_both (default_fault rs (rule item)) (defaults_fault (with_default rs (rule item)) (rules items)) (one_passes item rs) (defaults_pass items (with_default rs (rule item)))
