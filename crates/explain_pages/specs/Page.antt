-- What is written of a refusal.
use Rattle.std.specs.Prelude.{ℕ, Bool, List, [], ◌∷◌, ◌++◌, codes, if◌then◌else◌}
use Rattle.std.specs.List.{flat_map}
use Rattle.twe_base.specs.declared.place.Place.{Place}
use Rattle.twe_frontend.specs.declared.refusal.Refusal.{Refusal}
use Rattle.twe_report.specs.Texts.{line, place_text, rule_text}
use Rattle.explain_pages.specs.places.Excerpt.{excerpt_text, shown}
use Rattle.explain_pages.specs.declared.places.note.Explanation.{Explanation}
use Rattle.explain_pages.specs.declared.places.note.Note.{Note}
use Rattle.explain_pages.specs.declared.wanted.Wanted.{Wanted}

-- the answer of `twe check`, without the end of its line
abbrev pub check_text : Refusal → List ℕ
check_text refusal = codes "refused: " ++ (rule_text refusal.rule ++ (codes " at " ++ place_text refusal.place))

-- the answer of `twe check`, and what is wrong
abbrev pub answer_line : Refusal → List ℕ → List ℕ
answer_line refusal headline = line (check_text refusal ++ (codes ": " ++ headline))

-- the name of the text and a colon, if it has a name
abbrev pub name_text : List ℕ → List ℕ
name_text [] = []
name_text (code ∷ name) = shown (code ∷ name) ++ codes ":"

-- `race.twe:6:14`, or `6:14` if the text has no name
abbrev pub spot_text : List ℕ → Place → List ℕ
spot_text name place = name_text name ++ place_text place

-- `race.twe:6:14: what is said`
abbrev pub note_line : List ℕ → Place → List ℕ → List ℕ
note_line name place said = line (spot_text name place ++ (codes ": " ++ said))

-- what is said of a place as one line, if anything is
abbrev pub spot_line : List ℕ → Place → List ℕ → List ℕ
spot_line name place [] = []
spot_line name place (code ∷ said) = note_line name place (code ∷ said)

-- each place with what is said of it, as one line
abbrev pub spot_lines : List ℕ → List Note → List ℕ
spot_lines name notes = flat_map (λ note. spot_line name note.place note.caption) notes

-- each place with its line of the text
abbrev pub excerpts : List ℕ → List Note → List ℕ
excerpts text notes = flat_map (λ note. excerpt_text text note.place note.caption) notes

-- each remark, as one line at this place
abbrev pub remark_lines : List ℕ → Place → List (List ℕ) → List ℕ
remark_lines name place remarks = flat_map (λ remark. note_line name place remark) remarks

-- for editors: a line for each place of which something is said, and then one for each remark
abbrev pub lines_text : List ℕ → Refusal → Explanation → List ℕ
lines_text name refusal explanation =
    answer_line refusal explanation.headline
    ++ (spot_lines name explanation.notes ++ remark_lines name refusal.place explanation.remarks)

-- for people: the place, the lines of the text with a caret, and then the remarks
abbrev pub page_text : List ℕ → List ℕ → Refusal → Explanation → List ℕ
page_text name text refusal explanation =
    answer_line refusal explanation.headline
    ++ (line (spot_text name refusal.place) ++ (excerpts text explanation.notes ++ flat_map line explanation.remarks))

-- what is written of a refusal
abbrev pub refused_text : Wanted → List ℕ → Refusal → Explanation → List ℕ
refused_text wanted text refusal explanation =
    if wanted.lines then lines_text wanted.name refusal explanation else page_text wanted.name text refusal explanation
