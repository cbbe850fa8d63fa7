-- Edits of a text: where they begin, and what the text is afterwards.
use Rattle.std.specs.Prelude.{ℕ, ◌-◌, Bool, ◌||◌, ◌==◌, List, ◌++◌, length, take, drop}
use Rattle.std.specs.List.{prefix_len}
use Rattle.twe_base.specs.declared.place.Place.{Place}
use Rattle.twe_frontend.specs.Lines.{after_lines, line_at}
use Rattle.refusal_causes.specs.text_rules.Behind.{from_place}
use Rattle.refusal_notes.specs.declared.spots.Span.{Span}

-- a space or a tab
abbrev pub is_indent : ℕ → Bool
is_indent code = (code == 32) || (code == 9)

-- how many spaces and tabs the line of this number begins with
abbrev pub indent_at : List ℕ → ℕ → ℕ
indent_at text number = prefix_len is_indent (line_at number text)

-- the text from the first byte of the line of this number on that is no space or tab
abbrev pub from_statement : List ℕ → ℕ → List ℕ
from_statement text number = drop (indent_at text number) (after_lines (number - 1) text)

-- how many bytes of a text come before the rest of it
abbrev pub bytes_before : List ℕ → List ℕ → ℕ
bytes_before text rest = length text - length rest

-- how many bytes of a text come before the place
abbrev pub place_offset : List ℕ → Place → ℕ
place_offset text place = bytes_before text (from_place text place)

-- how many bytes of a text come before the first one of this line that is no space or tab
abbrev pub statement_offset : List ℕ → ℕ → ℕ
statement_offset text number = bytes_before text (from_statement text number)

-- the text with other bytes after its first `from` ones, instead of so many there
abbrev pub edited : List ℕ → ℕ → ℕ → List ℕ → List ℕ
edited text from count bytes = take from text ++ (bytes ++ drop count (drop from text))

-- the text without this part
abbrev pub without_span : List ℕ → Span → List ℕ
without_span text span = take span.start.offset text ++ drop 1 (drop span.last text)
