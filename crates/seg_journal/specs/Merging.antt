-- Numbered entries in the order of their numbers, and the journal that they make.
use Rattle.std.specs.Prelude.{◌≡◌, ◌<◌, ◌==◌, ◌++◌, ℕ, ℤ, Bool, List, [], ◌∷◌, length, map, Some, slice_get, count_by, Contains}
use Rattle.seg_journal.specs.declared.journal.Entry.{Entry}
use Rattle.seg_journal.specs.declared.numbered.NumberedEntry.{NumberedEntry}

-- the entry has this number
abbrev pub has_number : ℕ → NumberedEntry → Bool
has_number n e = e.number == n

-- all entries of the parts, one part after another
abbrev pub all_of : List (List NumberedEntry) → List NumberedEntry
all_of [] = []
all_of (part ∷ parts) = part ++ all_of parts

-- The numbers of the entries of all parts are 0, 1 and so on, each once.
pub record AreNumbered (parts : List (List NumberedEntry)) : Type 0 where
  pub within : (e : NumberedEntry) → Contains (all_of parts) e → e.number < length (all_of parts)
  pub once : (n : ℕ) → n < length (all_of parts) → count_by (has_number n) (all_of parts) ≡ 1

-- the entries without their numbers
abbrev pub journal_of : List NumberedEntry → List Entry
journal_of log = map (λ (e : NumberedEntry). e.entry) log

-- the values that the entries printed, in the order of the entries
abbrev pub prints_of : List NumberedEntry → List ℤ
prints_of [] = []
prints_of (e ∷ log) = e.prints ++ prints_of log

-- The log has the entries of all parts, each at the place of its number.
pub record IsMergeOf (parts : List (List NumberedEntry)) (log : List NumberedEntry) : Type 0 where
  pub size : length log ≡ length (all_of parts)
  pub entries : (e : NumberedEntry) → Contains (all_of parts) e → slice_get log e.number ≡ Some e
