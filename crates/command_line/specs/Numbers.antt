-- The numbers on the command line.
use Rattle.std.specs.Prelude.{ℕ, ◌+◌, ◌-◌, ◌*◌, ◌&&◌, Bool, List, length, Option, None, Some, fold, nat_le, if◌then◌else◌}
use Rattle.std.specs.List.{list_all}
use Rattle.std.specs.Char.{is_ascii_digit}

-- 1 to 10 decimal digits; leading zeros are allowed
abbrev pub is_number_word : List ℕ → Bool
is_number_word word = nat_le 1 (length word) && (nat_le (length word) 10 && list_all is_ascii_digit word)

-- the number that the digits write
abbrev pub number_of_word : List ℕ → ℕ
number_of_word digits = fold (λ value digit. value * 10 + (digit - 48)) 0 digits

-- the number that a word is, if it is from `least` to `most`
abbrev pub number_between : ℕ → ℕ → List ℕ → Option ℕ
number_between least most word =
    if is_number_word word && (nat_le least (number_of_word word) && nat_le (number_of_word word) most)
    then Some (number_of_word word) else None
