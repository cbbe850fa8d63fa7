-- The source and the sink over standard streams. They keep the bytes that went through, and count the failed calls.
use Rattle.std.specs.Prelude.{ℕ, List, ◌++◌, Option, None, Some}
use Rattle.twe_io.specs.Faults.{one_more}

-- the bytes that were read or written, one piece after another, and how many calls failed
pub record Through : Type 0 where
  pub bytes : List ℕ
  pub faults : ℕ

-- these bytes, and this count of failed calls
abbrev pub through : List ℕ → ℕ → Through
through bytes faults = record { bytes = bytes; faults = faults }

-- a call that fails raises only the count of faults, and any other adds the bytes that it gave or took
abbrev pub through_after : Through → Option (List ℕ) → Through
through_after before None = record before { faults = one_more before.faults }
through_after before (Some bytes) = record before { bytes = before.bytes ++ bytes }
