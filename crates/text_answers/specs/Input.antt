-- The input of a command. For `check` and `run` it is the text of a program. For `replay` it is the text of a program, and
-- after the first line that is exactly `%%` the text of a journal; without such a line the journal is empty. `load` has no
-- input: its program text is that of the load generator.
use Rattle.std.specs.Prelude.{◌≡◌, ◌==◌, true, false, ◌++◌, ◌||◌, ℕ, Bool, List, [], ◌∷◌, codes, bytes_eq, if◌then◌else◌}
use Rattle.std.specs.List.{flat_map, list_any}
use Rattle.seg_journal.specs.Lines.{lines_of}
use Rattle.command_line.specs.declared.command.Command.{Command}
use Rattle.command_line.specs.declared.command.Command.TheVariants.{Check, Run, Replay, Load}
use Rattle.load_text.specs.Text.{load_text_of}

-- the line is exactly `%%`; on the last line the byte 10 may be missing
abbrev pub is_mark : List ℕ → Bool
is_mark line = bytes_eq line (codes "%%" ++ 10 ∷ []) || bytes_eq line (codes "%%")

-- the lines before the first mark
abbrev pub before_mark : List (List ℕ) → List (List ℕ)
before_mark [] = []
before_mark (line ∷ lines) = if is_mark line then [] else line ∷ before_mark lines

-- the lines after the first mark
abbrev pub after_mark : List (List ℕ) → List (List ℕ)
after_mark [] = []
after_mark (line ∷ lines) = if is_mark line then lines else after_mark lines

-- the text that lines make one after another
abbrev pub joined : List (List ℕ) → List ℕ
joined lines = flat_map (λ line. line) lines

-- the text before the first mark
abbrev pub program_part : List ℕ → List ℕ
program_part input = joined (before_mark (lines_of input))

-- the text after the first mark
abbrev pub journal_part : List ℕ → List ℕ
journal_part input = joined (after_mark (lines_of input))

-- the program text of an input
abbrev pub program_text : Command → List ℕ → List ℕ
program_text Check input = input
program_text (Run workers lim asked) input = input
program_text (Replay lim) input = program_part input
program_text (Load workers n) input = load_text_of n

-- the journal text of an input; `replay` alone has one
abbrev pub journal_text : Command → List ℕ → List ℕ
journal_text Check input = []
journal_text (Run workers lim asked) input = []
journal_text (Replay lim) input = journal_part input
journal_text (Load workers n) input = []

-- `load` alone has no input
abbrev pub has_input : Command → Bool
has_input Check = true
has_input (Run workers lim asked) = true
has_input (Replay lim) = true
has_input (Load workers n) = false

-- the text is empty, or its last byte is the end of a line
abbrev pub ends_line : List ℕ → Bool
ends_line [] = true
ends_line (byte ∷ []) = byte == 10
ends_line (byte ∷ next ∷ text) = ends_line (next ∷ text)

-- a line of the text is a mark
abbrev pub has_mark : List ℕ → Bool
has_mark text = list_any is_mark (lines_of text)

-- no line of the text is a mark
abbrev pub HasNoMark : List ℕ → Type 0
HasNoMark text = has_mark text ≡ false
