-- A line of a text as it is shown to people, with a caret under one of its columns.
use Rattle.std.specs.Prelude.{ℕ, ◌-◌, ◌/◌, ◌%◌, ◌+◌, Bool, ◌&&◌, nat_le, nat_lt, ◌==◌, List, [], ◌∷◌, ◌++◌, length, take, drop, replicate, codes, decimal, if◌then◌else◌}
use Rattle.std.specs.List.{flat_map}
use Rattle.twe_base.specs.declared.place.Place.{Place}
use Rattle.twe_frontend.specs.Lines.{line_at}

-- `0` to `9`, and then `A` to `F`
abbrev pub hex_digit : ℕ → ℕ
hex_digit n = if nat_lt n 10 then 48 + n else 65 + (n - 10)

-- a printing character of ASCII stands for itself, a tab is shown as a blank, and any other byte as `\xNN`
abbrev pub shown_byte : ℕ → List ℕ
shown_byte code =
    if code == 9 then 32 ∷ []
    else if nat_le 32 code && nat_le code 126 then code ∷ []
    else 92 ∷ 120 ∷ hex_digit (code / 16) ∷ hex_digit (code % 16) ∷ []

-- bytes as they are shown
abbrev pub shown : List ℕ → List ℕ
shown bytes = flat_map shown_byte bytes

-- how many bytes of a line are left out before the column: none of a line of at most 100 bytes, and of a longer one those
-- that are more than 50 bytes before it
abbrev pub left_out : ℕ → ℕ → ℕ
left_out length column = if nat_le length 100 then 0 else column - 51

-- `..`, if something is left out
abbrev pub dots_if : Bool → List ℕ
dots_if cut = if cut then codes ".." else []

-- at most 100 bytes of a line, from this one on
abbrev pub part_text : List ℕ → ℕ → List ℕ
part_text bytes from =
    dots_if (nat_lt 0 from) ++ (shown (take 100 (drop from bytes)) ++ dots_if (nat_lt 100 (length bytes - from)))

-- what is shown of the line before the column
abbrev pub before_caret : List ℕ → ℕ → ℕ → List ℕ
before_caret bytes from column = dots_if (nat_lt 0 from) ++ shown (take ((column - 1) - from) (drop from bytes))

-- as many blanks
abbrev pub blanks : ℕ → List ℕ
blanks count = replicate count 32

-- a blank and the caption, if there is one
abbrev pub caption_text : List ℕ → List ℕ
caption_text [] = []
caption_text (code ∷ caption) = 32 ∷ code ∷ caption

-- the number of a line, and the part of the line that is shown
abbrev pub shown_line : List ℕ → ℕ → ℕ → List ℕ
shown_line bytes from number = (decimal number ++ (codes " | " ++ part_text bytes from)) ++ codes "\n"

-- blanks under the number of the line, and under the column a caret with the caption
abbrev pub caret_line : List ℕ → ℕ → Place → List ℕ → List ℕ
caret_line bytes from place caption =
    (blanks (length (decimal place.line))
    ++ (codes " | " ++ (blanks (length (before_caret bytes from place.col)) ++ (codes "^" ++ caption_text caption))))
    ++ codes "\n"

-- a line of a text, and under its column a caret with the caption
abbrev pub line_and_caret : List ℕ → Place → List ℕ → List ℕ
line_and_caret bytes place caption =
    let from = left_out (length bytes) place.col in
    shown_line bytes from place.line ++ caret_line bytes from place caption

-- the line of the place, with a caret under its column
abbrev pub excerpt_text : List ℕ → Place → List ℕ → List ℕ
excerpt_text text place caption = line_and_caret (line_at place.line text) place caption
