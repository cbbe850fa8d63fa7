-- What is said of brackets that are open at the end of a text.
use Rattle.std.specs.Prelude.{◌-◌, List, [], ◌∷◌, ◌++◌, codes, drop, length}
use Rattle.std.specs.List.{flat_map}
use Rattle.twe_base.specs.declared.place.Place.{Place}
use Rattle.twe_frontend.specs.declared.refusal.Refusal.{Refusal}
use Rattle.explain_pages.specs.places.Notes.{note_at}
use Rattle.explain_pages.specs.declared.places.note.Explanation.{Explanation}
use Rattle.explain_pages.specs.declared.places.note.Note.{Note}
use Rattle.refusal_causes.specs.declared.next_tokens.NextToken.{NextToken}
use Rattle.refusal_notes.specs.Tokens.{stray_explanation}

-- the bracket at the place is not closed
abbrev pub bracket_notes : Place → List Note
bracket_notes place = note_at place (codes "is not closed") ∷ []

-- at most five brackets are shown, the innermost ones
abbrev pub unclosed_notes : List Place → List Note
unclosed_notes places = flat_map bracket_notes (drop (length places - 5) places)

-- the same as of a token, with the brackets that are open
abbrev pub unclosed_explanation : Refusal → List NextToken → List Place → Explanation
unclosed_explanation refusal tokens places =
    record (stray_explanation refusal tokens) { notes = unclosed_notes places ++ note_at refusal.place [] ∷ [] }
