-- What is written of a run.
use Rattle.std.specs.Prelude.{◌++◌, ◌-◌, ℕ, List, [], ◌∷◌, codes, length, take, if◌then◌else◌}
use Rattle.std.specs.List.{flat_map}
use Rattle.twe_base.specs.declared.place.Place.{Place}
use Rattle.twe_report.specs.Texts.{line}
use Rattle.explain_pages.specs.Page.{excerpts, remark_lines, spot_lines, spot_text}
use Rattle.explain_pages.specs.declared.places.note.Explanation.{Explanation}
use Rattle.explain_pages.specs.declared.places.note.Note.{Note}
use Rattle.explain_pages.specs.declared.wanted.Wanted.{Wanted}

-- a line without its end
abbrev pub without_end : List ℕ → List ℕ
without_end text = take (length text - 1) text

-- the line that `twe replay` writes, and what it comes from
abbrev pub run_line : List ℕ → List ℕ → List ℕ
run_line answer headline = line (without_end answer ++ (codes ": " ++ headline))

-- the place of the first note, or the beginning of the text if there is none
abbrev pub first_spot : List Note → Place
first_spot [] = record { line = 1; col = 1 }
first_spot (note ∷ notes) = note.place

-- the place of the first note as a line, if there is one
abbrev pub first_spot_line : List ℕ → List Note → List ℕ
first_spot_line name [] = []
first_spot_line name (note ∷ notes) = line (spot_text name note.place)

-- for editors: a line for each note, and then one for each remark, at the place of the first note
abbrev pub run_lines : List ℕ → List ℕ → Explanation → List ℕ
run_lines name answer explanation =
    run_line answer explanation.headline
    ++ (spot_lines name explanation.notes ++ remark_lines name (first_spot explanation.notes) explanation.remarks)

-- for people: the place, the lines of the text with a caret, and then the remarks
abbrev pub run_page : List ℕ → List ℕ → List ℕ → Explanation → List ℕ
run_page name text answer explanation =
    run_line answer explanation.headline
    ++ (first_spot_line name explanation.notes ++ (excerpts text explanation.notes ++ flat_map line explanation.remarks))

-- what is written of a run of this text, whose line of `twe replay` this is
abbrev pub run_text : Wanted → List ℕ → List ℕ → Explanation → List ℕ
run_text wanted text answer explanation =
    if wanted.lines then run_lines wanted.name answer explanation else run_page wanted.name text answer explanation
