-- Entries in the slots of their numbers.
use Rattle.std.specs.Prelude.{List, [], ◌∷◌, Option, None, Some, map, option_copied, slice_set}
use Rattle.std.specs.Borrow.{Bor}
use Rattle.seg_journal.specs.declared.numbered.NumberedEntry.{NumberedEntry}

-- what lies in the slots
abbrev pub lying : List (Option (Bor NumberedEntry)) → List (Option NumberedEntry)
lying slots = map option_copied slots

-- the slots once each of these entries was put into the slot of its number
abbrev pub placed : List (Option NumberedEntry) → List NumberedEntry → List (Option NumberedEntry)
placed slots [] = slots
placed slots (e ∷ entries) = placed (slice_set slots e.number (Some e)) entries

-- the entries that the slots have
abbrev pub present : List (Option NumberedEntry) → List NumberedEntry
present [] = []
present (None ∷ slots) = present slots
present (Some e ∷ slots) = e ∷ present slots
