-- How a buffer was filled from a source.
use Rattle.std.specs.Prelude.{◌≡◌, ◌⊎◌, ◌<◌, ℕ, List, [], length, Option, None, Some}
use Rattle.std.specs.Io.KnownBytes.{Consumes}
use Rattle.twe_io.specs.Runs.{Reads, ReadsThen}

-- this text was read, until the buffer was full or a read gave nothing
abbrev pub FillsUp : {S : Type 0} → (S → ℕ → Option (List ℕ) → S → Type 0) → ℕ → S → List ℕ → S → Type 0
FillsUp gives room first text last =
    ((length text ≡ room) × Reads gives room first text last) ⊎ ReadsThen gives room first text (Some []) last

-- a read failed before the buffer was full
abbrev pub BreaksOff : {S : Type 0} → (S → ℕ → Option (List ℕ) → S → Type 0) → ℕ → S → S → Type 0
BreaksOff gives room first last = (given : List ℕ) × ReadsThen gives room first given None last

-- the source gave fewer than n bytes
abbrev pub GivesLess : Option (List ℕ) → Option (List ℕ) → ℕ → Type 0
GivesLess before after n = (given : List ℕ) × Consumes before after given × (length given < n)
