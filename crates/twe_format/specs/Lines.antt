-- The lines of a text.
use Rattle.std.specs.Prelude.{ℕ, ◌+◌, ◌==◌, Bool, true, false, not, List, [], ◌∷◌, ◌++◌, length, count_by, if◌then◌else◌}
use Rattle.twe_lexer.specs.Lexeme.{is_blank, is_line_end}
use Rattle.twe_format.specs.declared.lines.Line.{Line}

-- a byte that is not white space
abbrev pub is_ink : ℕ → Bool
is_ink code = not (is_blank code)

-- the first line of a text, of which nothing is read
abbrev pub first_line : Line
first_line = record { number = 1; before = 0; bytes = []; ended = false }

-- the line after this one, of which nothing is read
abbrev pub next_line : Line → Line
next_line line = record { number = line.number + 1; before = line.before + count_by is_ink line.bytes; bytes = []; ended = false }

-- the line with one more byte
abbrev pub longer_line : Line → ℕ → Line
longer_line line code = record { number = line.number; before = line.before; bytes = line.bytes ++ code ∷ []; ended = line.ended }

-- the line, with its end
abbrev pub ended_line : Line → Line
ended_line line = record { number = line.number; before = line.before; bytes = line.bytes; ended = true }

-- the rest of the lines, if this one was begun
abbrev pub lines_from : Line → List ℕ → List Line
lines_from line [] = if length line.bytes == 0 then [] else (line ∷ [])
lines_from line (code ∷ text) =
    if is_line_end code then (ended_line line ∷ lines_from (next_line line) text) else lines_from (longer_line line code) text

-- the lines of a text
abbrev pub numbered_lines : List ℕ → List Line
numbered_lines text = lines_from first_line text
