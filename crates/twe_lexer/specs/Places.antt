-- The places of the bytes of a text.
use Rattle.std.specs.Prelude.{◌≡◌, ℕ, ◌+◌, ◌<◌, ◌⊎◌, Bool, false, ◌&&◌, ◌||◌, not, List, [], ◌∷◌, ◌==◌, count_by}
use Rattle.std.specs.Str.{byte}
use Rattle.std.specs.List.{suffix_len}
use Rattle.twe_base.specs.declared.place.Place.{Place}
use Rattle.twe_lexer.specs.Lexeme.{is_line_end, is_blank}

-- The place of the byte after this beginning of a text. Lines and columns are counted from 1.
abbrev pub place_after : List ℕ → Place
place_after before = record {
  line = 1 + count_by is_line_end before;
  col = 1 + suffix_len (λ code. not (is_line_end code)) before;
}

-- one place comes before another in a text
abbrev pub Precedes : Place → Place → Type 0
Precedes one other = (one.line < other.line) ⊎ ((one.line ≡ other.line) × (one.col < other.col))

-- a lexeme that is not a token: a blank, or one that begins as a comment does
abbrev pub is_gap : List ℕ → Bool
is_gap [] = false
is_gap (code ∷ []) = is_blank code
is_gap (first ∷ second ∷ others) = (first == byte "/") && ((second == byte "/") || (second == byte "*"))
