-- What is said of places of a text, before it is laid out.
use Rattle.std.specs.Prelude.{ℕ, List}
use Rattle.twe_base.specs.declared.place.Place.{Place}
use Rattle.explain_pages.specs.declared.places.note.Note.{Note}

-- what is said of a place
abbrev pub note_at : Place → List ℕ → Note
note_at place caption = record { place = place; caption = caption }
