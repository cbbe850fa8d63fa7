-- Texts that spell a number in decimal, without leading zeros.
use Rattle.std.proofs.Common.{◌≡◌, ◌≢◌, ◌<◌, ◌^◌, ℕ, List, [], ◌∷◌, Some, decimal, sym, subst}
use Rattle.std.proofs.lemmas.Fmt.{digits_decimal, IsAscii-decimal}
use Rattle.std.proofs.lemmas.Str.{IsUtf8-from_ascii}
use Rattle.std.proofs.lemmas.Str.Parse.{IsNumeralModel, numerals_by_value, tells_digits, digit_from_value}
use Rattle.std.specs.Char.{IsAsciiDigit}
use Rattle.std.specs.List.{AllByRecursion}
use Rattle.std.specs.Str.{IsUtf8}
use Rattle.std.specs.Str.Parse.{AllDigits, digits_value}

-- the digits of a text, and their value
numerals : IsNumeralModel (AllDigits 10) (digits_value 10)
numerals = numerals_by_value (AllDigits 10) tells_digits

-- what spells a number is UTF-8
pub decimal_utf8 : (text : List ℕ) (n : ℕ) → n < 2 ^ 64 → text ≡ decimal n → IsUtf8 text
decimal_utf8 text n small e = subst IsUtf8 (sym e) (IsUtf8-from_ascii (decimal n) (IsAscii-decimal n small))

-- digits are none of the other bytes
digits_avoid : (byte : ℕ) (digits : List ℕ) → (IsAsciiDigit byte → ⊥) → AllDigits 10 digits → AllByRecursion (λ b. b ≢ byte) digits
digits_avoid byte [] other digits = tt
digits_avoid byte (d ∷ ds) other (digit, digits) =
    ((λ same. other (subst IsAsciiDigit same (digit_from_value d digit))), digits_avoid byte ds other digits)

-- nor are those that spell a number
pub decimal_avoids : (byte n : ℕ) → n < 2 ^ 64 → (IsAsciiDigit byte → ⊥) → AllByRecursion (λ b. b ≢ byte) (decimal n)
decimal_avoids byte n small other = digits_avoid byte (decimal n) other (digits_decimal numerals n small)

-- a number that is found is the one that was asked for
pub Some-same : (m n : ℕ) → Some m ≡ Some n → m ≡ n
Some-same m n e = cc
