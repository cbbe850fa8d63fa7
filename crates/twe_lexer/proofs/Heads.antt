-- What the first byte of a lexeme says of the others.
use Rattle.std.proofs.Common.{◌≡◌, ℕ, ◌+◌, ◌≤◌, Bool, true, false, List, [], ◌∷◌, ◌++◌, length, get_or, take, eqb, sym, refl, ◌∙◌, subst, ⊎_elim, arith}
use Rattle.std.specs.List.{list_all, list_any, prefix_len, AllByRecursion}
use Rattle.std.specs.Char.{is_ascii_digit}
use Rattle.std.specs.Str.{bytes_eq}
use Rattle.std.proofs.lemmas.Bool.{and_parts, and_from, or_cases, cond_both, false≢true}
use Rattle.std.proofs.lemmas.Bool.Decides.{nat_tests}
use Rattle.std.proofs.Math.Numerals.{one-add}
use Rattle.std.proofs.lemmas.Slice.Eq.{bytes_eq-Decides}
use Rattle.twe_lexer.specs.Lexeme.{is_blank, is_letter, long_symbols, is_long_symbol}
use Rattle.twe_lexer.specs.Places.{is_gap}

-- a byte that is no blank, and begins no comment
pub record BeginsToken (byte : ℕ) : Type 0 where
  pub no_blank : is_blank byte ≡ false
  pub no_slash : eqb byte 47 ≡ false

letter_tests : (byte : ℕ) → is_letter byte ≡ true → (is_blank byte ≡ false) × (eqb byte 47 ≡ false) × (is_ascii_digit byte ≡ false)
letter_tests byte letter = grind (arith, nat_tests)

digit_tests : (byte : ℕ) → is_ascii_digit byte ≡ true → (is_blank byte ≡ false) × (eqb byte 47 ≡ false) × (is_letter byte ≡ false)
digit_tests byte digit = grind (arith, nat_tests)

pub letter_begins : (byte : ℕ) → is_letter byte ≡ true → BeginsToken byte
letter_begins byte letter = let tests = letter_tests byte letter in record { no_blank = tests.0; no_slash = tests.1 }

pub digit_begins : (byte : ℕ) → is_ascii_digit byte ≡ true → BeginsToken byte
digit_begins byte digit = let tests = digit_tests byte digit in record { no_blank = tests.0; no_slash = tests.1 }

pub letter_no_digit : (byte : ℕ) → is_letter byte ≡ true → is_ascii_digit byte ≡ true → ⊥
letter_no_digit byte letter digit = false≢true (sym (letter_tests byte letter).2 ∙ digit)

pub blank_tests : (byte : ℕ) → is_blank byte ≡ true → (eqb byte 47 ≡ false) × (is_letter byte ≡ false) × (is_ascii_digit byte ≡ false)
blank_tests byte blank = grind (arith, nat_tests)

-- the two bytes of a symbol of two bytes
pub record IsSymbolPair (bytes : List ℕ) : Type 0 where
  pub two : length bytes ≡ 2
  pub no_gap : is_gap bytes ≡ false
  pub no_slash : eqb (get_or bytes 0 0) 47 ≡ false
  pub no_letter : is_letter (get_or bytes 0 0) ≡ false
  pub no_digit : is_ascii_digit (get_or bytes 0 0) ≡ false
  pub no_blank : is_blank (get_or bytes 0 0) ≡ false

-- what each of the listed texts is, a text that equals one of them is
among : (P : List ℕ → Type 0) (texts : List (List ℕ)) (bytes : List ℕ) → AllByRecursion P texts → list_any (bytes_eq bytes) texts ≡ true → P bytes
among P [] bytes each any = absurd (false≢true any)
among P (text ∷ texts) bytes each any = ⊎_elim (λ same. subst P (sym ((bytes_eq-Decides bytes text).0 same)) each.0) (λ further. among P texts bytes each.1 further) (or_cases (bytes_eq bytes text) (list_any (bytes_eq bytes) texts) any)

pair_of : (a b : ℕ) → is_gap (a ∷ b ∷ []) ≡ false → eqb a 47 ≡ false → is_letter a ≡ false → is_ascii_digit a ≡ false → is_blank a ≡ false → IsSymbolPair (a ∷ b ∷ [])
pair_of a b gap slash letter digit blank = record { two = refl; no_gap = gap; no_slash = slash; no_letter = letter; no_digit = digit; no_blank = blank }

pub symbol_pair : (bytes : List ℕ) → is_long_symbol bytes ≡ true → IsSymbolPair bytes
symbol_pair bytes symbol =
    among IsSymbolPair long_symbols bytes
    (pair_of 61 61 refl refl refl refl refl, (pair_of 33 61 refl refl refl refl refl, (pair_of 60 61 refl refl refl refl refl, (pair_of 62 61 refl refl refl refl refl, (pair_of 38 38 refl refl refl refl refl, (pair_of 124 124 refl refl refl refl refl, tt))))))
    symbol

-- a part of a run is no longer than the run
pub run_bound : (passes : ℕ → Bool) (others later : List ℕ) → list_all passes others ≡ true → length others ≤ prefix_len passes (others ++ later)
run_bound passes [] later all = omega arith
run_bound passes (first ∷ others) later all =
    let parts = and_parts (passes first) (list_all passes others) all in
    let more = run_bound passes others later parts.1 in
    rw parts.0 (omega arith)

-- the bytes of a run pass
pub run_passes : (passes : ℕ → Bool) (bytes : List ℕ) → list_all passes (take (prefix_len passes bytes) bytes) ≡ true
run_passes passes [] = refl
run_passes passes (first ∷ others) =
    cond_both (passes first) (1 + prefix_len passes others) 0 (λ n. list_all passes (take n (first ∷ others)) ≡ true)
    (λ pass. rw one-add (and_from (passes first) (list_all passes (take (prefix_len passes others) others)) pass (run_passes passes others)))
    (λ fail. refl)
