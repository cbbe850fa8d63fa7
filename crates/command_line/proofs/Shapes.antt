-- How words look to `clap`: options, the settings' spellings, and numbers.
use Rattle.std.proofs.Common.{◌≡◌, ◌<◌, ◌||◌, ◌&&◌, ◌==◌, ◌+◌, not, ℕ, List, [], ◌∷◌, ◌++◌, length, get_or, Bool, true, false, cond, Option, None, Some, codes, option_and_then, refl, sym, ap, ap₂, ◌∙◌, true≢false, eqb-true, arith, nat_le}
use Rattle.std.specs.List.{list_all, list_any, before_first, after_first, position_or_len}
use Rattle.std.specs.Str.{bytes_eq}
use Rattle.std.specs.Char.{is_ascii_digit}
use Rattle.std.proofs.lemmas.List.{take_all}
use Rattle.std.proofs.lemmas.List.Sums.{split_at_first, passes_at_first}
use Rattle.std.proofs.lemmas.Option.{option_and_then_some, cond_some, none-some, same_Some}
use Rattle.std.proofs.lemmas.Slice.Eq.{bytes_eq-Decides}
use Rattle.clap.specs.Lexer.{has_byte, long_of, long_of_rest, name_and_value, short_of, short_of_rest, strip_byte}
use Rattle.clap.specs.Walk.{Text}
use Rattle.command_line.specs.declared.setting.Setting.{Setting}
use Rattle.command_line.specs.declared.setting.Setting.TheVariants.{Workers, Fuel, Tasks}
use Rattle.twe_base.specs.Language.{max_fuel, max_tasks}
use Rattle.command_line.specs.Numbers.{is_number_word, number_of_word, number_between}
use Rattle.command_line.specs.Options.{of, option_spelled, number_for, max_workers}
use Rattle.command_line.specs.inner.Reading.{id}

-- ---- a list, cut at the first `=`

abbrev is_equals : ℕ → Bool
is_equals x = x == 61

inside : (xs : List ℕ) → list_any is_equals xs ≡ true → position_or_len is_equals xs < length xs
inside [] e = absurd (true≢false (sym e))
inside (x ∷ xs) e = by_test (inside xs) (is_equals x) e
  where
    by_test : (list_any is_equals xs ≡ true → position_or_len is_equals xs < length xs) → (b : Bool) → (b || list_any is_equals xs) ≡ true → cond (not b) (1 + position_or_len is_equals xs) 0 < length (x ∷ xs)
    by_test more true e = omega arith
    by_test more false e = omega (arith, more e)

past : (xs : List ℕ) → list_any is_equals xs ≡ false → position_or_len is_equals xs ≡ length xs
past [] e = refl
past (x ∷ xs) e = by_test (past xs) (is_equals x) e
  where
    by_test : (list_any is_equals xs ≡ false → position_or_len is_equals xs ≡ length xs) → (b : Bool) → (b || list_any is_equals xs) ≡ false → cond (not b) (1 + position_or_len is_equals xs) 0 ≡ length (x ∷ xs)
    by_test more true e = absurd (true≢false e)
    by_test more false e = omega (arith, more e)

cut_there : (xs : List ℕ) → list_any is_equals xs ≡ true → xs ≡ before_first is_equals xs ++ (61 ∷ after_first is_equals xs)
cut_there xs e =
    let lt = inside xs e in
    split_at_first is_equals xs 0 lt
    ∙ ap (λ (x : ℕ). before_first is_equals xs ++ (x ∷ after_first is_equals xs)) (eqb-true (get_or xs (position_or_len is_equals xs) 0) 61 (passes_at_first is_equals xs 0 lt))

not_cut : (xs : List ℕ) → list_any is_equals xs ≡ false → xs ≡ before_first is_equals xs
not_cut xs e = sym (take_all (position_or_len is_equals xs) xs (omega (arith, past xs e)))

-- ---- options

-- the text is this name, or this name, `=` and this value
abbrev pub Joins : Text → Text → Option Text → Type 0
Joins text name None = text ≡ name
Joins text name (Some value) = text ≡ name ++ (61 ∷ value)

joins : (text name : Text) (value : Option Text) → name_and_value text ≡ (name, value) → Joins text name value
joins text name value e = by_test (has_byte 61 text) refl (ap (λ (p : Text × Option Text). p.0) e) (ap (λ (p : Text × Option Text). p.1) e)
  where
    by_value : (value : Option Text) → list_any is_equals text ≡ true → before_first is_equals text ≡ name → Some (after_first is_equals text) ≡ value → Joins text name value
    by_value None has front back = absurd (none-some (after_first is_equals text) (sym back))
    by_value (Some value) has front back =
        cut_there text has ∙ ap₂ (λ (xs ys : Text). xs ++ (61 ∷ ys)) front (same_Some (after_first is_equals text) value back)

    by_none : (value : Option Text) → list_any is_equals text ≡ false → before_first is_equals text ≡ name → None ≡ value → Joins text name value
    by_none None lacks front back = not_cut text lacks ∙ front
    by_none (Some value) lacks front back = absurd (none-some value back)

    by_test : (b : Bool) → has_byte 61 text ≡ b → before_first is_equals text ≡ name → cond b (Some (after_first is_equals text)) None ≡ value → Joins text name value
    by_test true has front back = by_value value has front back
    by_test false lacks front back = by_none value lacks front back

begins : (c : ℕ) (text rest : Text) → strip_byte c text ≡ Some rest → text ≡ c ∷ rest
begins c [] rest e = absurd (none-some rest e)
begins c (x ∷ xs) rest e =
    let both = cond_some (x == c) xs rest e in
    ap₂ (λ (y : ℕ) (ys : Text). y ∷ ys) (eqb-true x c both.0) both.1

-- what an option looks like
pub record IsLong (word name : Text) (value : Option Text) : Type 0 where
  pub text : Text
  pub word_is : word ≡ 45 ∷ 45 ∷ text
  pub joined : Joins text name value

pub is_long : (word name : Text) (value : Option Text) → long_of word ≡ Some (name, value) → IsLong word name value
is_long word name value e =
    option_and_then_some long_of_rest (option_and_then (strip_byte 45) (strip_byte 45 word)) (name, value) e (λ text stripped looks.
    option_and_then_some (strip_byte 45) (strip_byte 45 word) text stripped (λ once first second.
    record {
      text = text;
      word_is = begins 45 word once first ∙ ap (λ (xs : Text). 45 ∷ xs) (begins 45 once text second);
      joined = by_rest text looks;
    }))
  where
    by_rest : (text : Text) → long_of_rest text ≡ Some (name, value) → Joins text name value
    by_rest [] looks = absurd (none-some (name, value) looks)
    by_rest (x ∷ xs) looks = joins (x ∷ xs) name value (same_Some (name_and_value (x ∷ xs)) (name, value) looks)

pub spelled_is : (setting : Setting) → 45 ∷ 45 ∷ id (of setting) ≡ option_spelled setting
spelled_is Workers = refl
spelled_is Fuel = refl
spelled_is Tasks = refl

pub spelled_with : (setting : Setting) (value : Text) → 45 ∷ 45 ∷ (id (of setting) ++ (61 ∷ value)) ≡ option_spelled setting ++ (codes "=" ++ value)
spelled_with Workers value = refl
spelled_with Fuel value = refl
spelled_with Tasks value = refl

pub long_spelled : (setting : Setting) → long_of (option_spelled setting) ≡ Some (id (of setting), None)
long_spelled Workers = refl
long_spelled Fuel = refl
long_spelled Tasks = refl

pub long_spelled_with : (setting : Setting) (value : Text) → long_of (option_spelled setting ++ (codes "=" ++ value)) ≡ Some (id (of setting), Some value)
long_spelled_with Workers value = refl
long_spelled_with Fuel value = refl
long_spelled_with Tasks value = refl

pub no_end_spelled : (setting : Setting) → bytes_eq (option_spelled setting) (codes "--") ≡ false
no_end_spelled Workers = refl
no_end_spelled Fuel = refl
no_end_spelled Tasks = refl

pub no_end_spelled_with : (setting : Setting) (value : Text) → bytes_eq (option_spelled setting ++ (codes "=" ++ value)) (codes "--") ≡ false
no_end_spelled_with Workers value = refl
no_end_spelled_with Fuel value = refl
no_end_spelled_with Tasks value = refl

-- ---- numbers begin with no hyphen

pub record IsPlain (word : Text) : Type 0 where
  pub no_end : bytes_eq word (codes "--") ≡ false
  pub no_long : long_of word ≡ None
  pub no_short : short_of word ≡ None

without_hyphen : (word : Text) → strip_byte 45 word ≡ None → IsPlain word
without_hyphen word e = record {
  no_end = by_test (bytes_eq word (codes "--")) refl;
  no_long = ap (λ (o : Option Text). option_and_then long_of_rest (option_and_then (strip_byte 45) o)) e;
  no_short = ap (option_and_then short_of_rest) e;
}
  where
    by_test : (b : Bool) → bytes_eq word (codes "--") ≡ b → b ≡ false
    by_test true same = absurd (none-some (codes "-") (sym e ∙ ap (strip_byte 45) ((bytes_eq-Decides word (codes "--")).0 same)))
    by_test false differs = refl

both-true : (a b : Bool) → (a && b) ≡ true → (a ≡ true) × (b ≡ true)
both-true true b e = (refl, e)
both-true false b e = absurd (true≢false (sym e))

digit_first : (word : Text) → is_number_word word ≡ true → strip_byte 45 word ≡ None
digit_first [] e = refl
digit_first (x ∷ xs) e =
    let digits = (both-true (nat_le (length (x ∷ xs)) 10) (list_all is_ascii_digit (x ∷ xs)) (both-true (nat_le 1 (length (x ∷ xs))) (nat_le (length (x ∷ xs)) 10 && list_all is_ascii_digit (x ∷ xs)) e).1).1 in
    by_test (x == 45) refl (both-true (is_ascii_digit x) (list_all is_ascii_digit xs) digits).0
  where
    by_test : (b : Bool) → (x == 45) ≡ b → is_ascii_digit x ≡ true → cond b (Some xs) None ≡ None
    by_test true same digit = absurd (true≢false (sym digit ∙ ap is_ascii_digit (eqb-true x 45 same)))
    by_test false differs digit = refl

pub number_is_plain : (least most : ℕ) (word : Text) (number : ℕ) → number_between least most word ≡ Some number → IsPlain word
number_is_plain least most word number e =
    let found = cond_some (is_number_word word && (nat_le least (number_of_word word) && nat_le (number_of_word word) most)) (number_of_word word) number e in
    without_hyphen word (digit_first word (both-true (is_number_word word) (nat_le least (number_of_word word) && nat_le (number_of_word word) most) found.0).0)

pub value_is_plain : (setting : Setting) (word : Text) (number : ℕ) → number_for setting word ≡ Some number → IsPlain word
value_is_plain Workers word number e = number_is_plain 0 max_workers word number e
value_is_plain Fuel word number e = number_is_plain 0 max_fuel word number e
value_is_plain Tasks word number e = number_is_plain 1 max_tasks word number e
