-- The lines of a text.
use Rattle.std.specs.Prelude.{ℕ, zero, suc, ◌-◌, List, [], ◌∷◌, take, drop, if◌then◌else◌}
use Rattle.twe_lexer.specs.Lexeme.{is_line_end}

-- the length of the first line, without the byte that ends it
abbrev pub line_length : List ℕ → ℕ
line_length [] = 0
line_length (code ∷ text) = if is_line_end code then 0 else suc (line_length text)

-- the text after its first line
abbrev pub after_line : List ℕ → List ℕ
after_line text = drop 1 (drop (line_length text) text)

-- the text after so many lines
abbrev pub after_lines : ℕ → List ℕ → List ℕ
after_lines zero text = text
after_lines (suc count) text = after_line (after_lines count text)

-- the line of this number, counted from 1, without the byte that ends it
abbrev pub line_at : ℕ → List ℕ → List ℕ
line_at number text =
    let rest = after_lines (number - 1) text in
    take (line_length rest) rest
