-- The word at a place of a text.
use Rattle.std.specs.Prelude.{ℕ, ◌-◌, List, take, drop}
use Rattle.std.specs.List.{prefix_len}
use Rattle.twe_base.specs.declared.place.Place.{Place}
use Rattle.twe_lexer.specs.Lexeme.{is_word_byte}
use Rattle.twe_frontend.specs.Lines.{line_at}

-- the letters, digits and `_` that the bytes begin with
abbrev pub first_word : List ℕ → List ℕ
first_word bytes = take (prefix_len is_word_byte bytes) bytes

-- the word at the place of the text; empty if none stands there
abbrev pub word_at : List ℕ → Place → List ℕ
word_at text place = first_word (drop (place.col - 1) (line_at place.line text))
