-- The simplest source and sink: the source never fails, and the sink fails only if it is full.
use Rattle.std.specs.Prelude.{◌≡◌, ◌<◌, ◌+◌, ◌-◌, ℕ, List, ◌++◌, length, take, drop, min, Option, None, Some}
use Rattle.twe_io.specs.Faults.{one_more}

-- the bytes of a source, and how many of them were read
pub record Reading : Type 0 where
  pub bytes : List ℕ
  pub at : ℕ

-- the bytes left to read
abbrev pub plain_left_of : Reading → List ℕ
plain_left_of source = drop source.at source.bytes

-- one read into a buffer of this size never fails, and gives the first of the bytes left, as many as fit
abbrev pub ReadsPlain : Reading → ℕ → Option (List ℕ) → Reading → Type 0
ReadsPlain before room answer after =
    let given = take room (plain_left_of before) in
    (answer ≡ Some given) × (after ≡ record before { at = before.at + length given })

-- the bytes written to a sink so far, its size, and how many of its writes failed
pub record Writing : Type 0 where
  pub bytes : List ℕ
  pub room : ℕ
  pub faults : ℕ

-- one write fails exactly if the sink is full, and otherwise takes as much of the piece as fits
abbrev pub WritesPlain : Writing → List ℕ → Option ℕ → Writing → Type 0
WritesPlain before piece None after =
    (length before.bytes ≡ before.room) × (after ≡ record before { faults = one_more before.faults })
WritesPlain before piece (Some n) after =
    (length before.bytes < before.room) × (n ≡ min (length piece) (before.room - length before.bytes))
    × (after ≡ record before { bytes = before.bytes ++ take n piece })
