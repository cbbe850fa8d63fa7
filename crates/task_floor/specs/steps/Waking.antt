-- The entries with which a floor goes on from a quiet point.
use Rattle.std.specs.Prelude.{◌+◌, ℕ, ℤ, List, [], ◌∷◌}
use Rattle.seg_journal.specs.declared.journal.Entry.{Entry}
use Rattle.seg_journal.specs.declared.numbered.NumberedEntry.{NumberedEntry}

-- the entries with their numbers, from n on, and nothing printed beside them
abbrev pub numbered_from : ℕ → List Entry → List NumberedEntry
numbered_from n [] = []
numbered_from n (entry ∷ entries) = record { number = n; entry = entry; prints = [] } ∷ numbered_from (n + 1) entries

-- the same with these numbers printed beside the last entry
abbrev pub with_last_prints : List ℤ → List NumberedEntry → List NumberedEntry
with_last_prints prints [] = []
with_last_prints prints (e ∷ []) = record { number = e.number; entry = e.entry; prints = prints } ∷ []
with_last_prints prints (e ∷ f ∷ log) = e ∷ with_last_prints prints (f ∷ log)

-- the entries of a journal, with all that the run has printed beside the last of them
abbrev pub log_of : List Entry → List ℤ → List NumberedEntry
log_of journal prints = with_last_prints prints (numbered_from 0 journal)
