-- The lines at which a text is not in its layout.
--
-- A text and its layout differ in white space alone. So a line of the one belongs to a line of the other if as many bytes other
-- than white space stand before both.
use Rattle.std.specs.Prelude.{ℕ, ◌==◌, nat_lt, Bool, false, not, ◌&&◌, List, [], ◌∷◌, ◌++◌, take, drop, codes, bytes_eq, decimal, if◌then◌else◌}
use Rattle.std.specs.List.{flat_map, prefix_len}
use Rattle.std.specs.Str.{byte}
use Rattle.twe_format.specs.declared.lines.Line.{Line}
use Rattle.twe_format.specs.Lines.{numbered_lines}

-- the same line: behind as many bytes other than white space, and with the same bytes
abbrev pub is_same_line : Line → Line → Bool
is_same_line line other =
    (line.before == other.before) && ((if line.ended then other.ended else not other.ended) && bytes_eq line.bytes other.bytes)

-- a line with its number behind this sign, as `-3: int x;`
abbrev pub signed_line : ℕ → Line → List ℕ
signed_line sign line = sign ∷ (decimal line.number ++ (codes ": " ++ (line.bytes ++ 10 ∷ [])))

-- a line that the text has and its layout has not
abbrev pub removed_line : Line → List ℕ
removed_line line = signed_line (byte "-") line

-- a line that the layout has and the text has not
abbrev pub added_line : Line → List ℕ
added_line line = signed_line (byte "+") line

-- how many of the first lines of the layout stand before a line of the text
abbrev pub count_ahead : Line → List Line → ℕ
count_ahead line laid = prefix_len (λ its. nat_lt its.before line.before) laid

-- the line of the text comes next in the layout
abbrev pub stands_first : Line → List Line → Bool
stands_first line [] = false
stands_first line (its ∷ others) = is_same_line line its

-- What differs between lines of a text and lines of its layout. Before a line of the text come the lines of the layout that
-- stand before it. If then the same line comes next in the layout, nothing is written of it.
abbrev pub differing : List Line → List Line → List ℕ
differing [] laid = flat_map added_line laid
differing (line ∷ lines) laid =
    let others = drop (count_ahead line laid) laid in
    flat_map added_line (take (count_ahead line laid) laid)
    ++ (if stands_first line others then differing lines (drop 1 others) else (removed_line line ++ differing lines others))

-- what differs between the lines of a text and those of its layout
abbrev pub differing_lines : List ℕ → List ℕ → List ℕ
differing_lines text laid = differing (numbered_lines text) (numbered_lines laid)
