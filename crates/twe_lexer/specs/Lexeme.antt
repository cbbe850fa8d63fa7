-- The bytes of a text, and its lexemes: always the longest one.
use Rattle.std.specs.Prelude.{◌≡◌, ℕ, ◌≤◌, Bool, false, ◌&&◌, ◌||◌, not, List, [], ◌∷◌, ◌++◌, length, ◌==◌, nat_le, IsTrue, codes, bytes_eq}
use Rattle.std.specs.List.{list_all, list_any}
use Rattle.std.specs.Char.{is_ascii_alphabetic, is_ascii_digit}
use Rattle.std.specs.Str.{byte}

-- the byte that ends a line
abbrev pub is_line_end : ℕ → Bool
is_line_end code = code == 10

-- white space: a tab, the end of a line, a carriage return, a space
abbrev pub is_blank : ℕ → Bool
is_blank code = (code == 9) || is_line_end code || (code == 13) || (code == byte " ")

-- the bytes that are allowed in a text, including its comments: white space, and the printing characters of ASCII
abbrev pub is_allowed : ℕ → Bool
is_allowed code = is_blank code || (nat_le (byte " ") code && nat_le code (byte "~"))

-- a letter of ASCII, or an underscore
abbrev pub is_letter : ℕ → Bool
is_letter code = is_ascii_alphabetic code || (code == byte "_")

-- a byte that may stand in a word after its first one: a letter or a digit
abbrev pub is_word_byte : ℕ → Bool
is_word_byte code = is_letter code || is_ascii_digit code

-- a letter, followed by letters and digits
abbrev pub is_word : List ℕ → Bool
is_word [] = false
is_word (first ∷ others) = is_letter first && list_all is_word_byte others

-- one or more digits
abbrev pub is_number : List ℕ → Bool
is_number [] = false
is_number (first ∷ others) = is_ascii_digit first && list_all is_ascii_digit others

-- the symbols of two bytes; every other symbol is one byte
abbrev pub long_symbols : List (List ℕ)
long_symbols = codes "==" ∷ codes "!=" ∷ codes "<=" ∷ codes ">=" ∷ codes "&&" ∷ codes "||" ∷ []

-- the bytes are a symbol of two bytes
abbrev pub is_long_symbol : List ℕ → Bool
is_long_symbol bytes = list_any (bytes_eq bytes) long_symbols

-- the bytes contain `*/`
abbrev pub HasClose : List ℕ → Type 0
HasClose bytes = (before : List ℕ) × (after : List ℕ) × (bytes ≡ before ++ (codes "*/" ++ after))

-- `//`, followed by bytes other than the end of a line
abbrev pub IsLineComment : List ℕ → Type 0
IsLineComment bytes = (body : List ℕ) × (bytes ≡ codes "//" ++ body) × IsTrue (list_all (λ code. not (is_line_end code)) body)

-- `/*`, followed by all bytes up to the first `*/`, which is included
abbrev pub IsBlockComment : List ℕ → Type 0
IsBlockComment bytes = (body : List ℕ) × (bytes ≡ codes "/*" ++ (body ++ codes "*/")) × ¬ HasClose body

-- `/*` without a `*/` after it
abbrev pub IsUnclosedComment : List ℕ → Type 0
IsUnclosedComment bytes = (body : List ℕ) × (bytes ≡ codes "/*" ++ body) × ¬ HasClose body

-- A lexeme. A single byte is a blank, a symbol, a word, a number, or a byte that begins no token of the language.
pub data IsLexeme (bytes : List ℕ) : Type 0 where
  one_byte : length bytes ≡ 1 → IsLexeme bytes
  long_symbol : IsTrue (is_long_symbol bytes) → IsLexeme bytes
  word : IsTrue (is_word bytes) → IsLexeme bytes
  number : IsTrue (is_number bytes) → IsLexeme bytes
  line_comment : IsLineComment bytes → IsLexeme bytes
  block_comment : IsBlockComment bytes → IsLexeme bytes
  unclosed_comment : IsUnclosedComment bytes → IsLexeme bytes

-- The text is this lexeme followed by the rest, and no longer beginning of the text is a lexeme.
pub record IsFirstLexeme (bytes text rest : List ℕ) : Type 0 where
  pub split : text ≡ bytes ++ rest
  pub lexeme : IsLexeme bytes
  pub longest : (other later : List ℕ) → IsLexeme other → text ≡ other ++ later → length other ≤ length bytes

-- the text consists of these lexemes, one after the other
abbrev pub AreLexemes : List (List ℕ) → List ℕ → Type 0
AreLexemes [] text = text ≡ []
AreLexemes (first ∷ others) text = (rest : List ℕ) × IsFirstLexeme first text rest × AreLexemes others rest
