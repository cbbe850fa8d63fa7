-- What calls do to the bytes that a source or a sink makes known: the bytes left to read, or the bytes written so far.
-- `None` stands for one that makes none known, and nothing is said of it.
use Rattle.std.specs.Prelude.{◌≡◌, ◌<◌, ◌≤◌, ℕ, List, Option, length, take}
use Rattle.std.specs.Io.KnownBytes.{Appends, Consumes}

-- the source gave n bytes: they were the first of those left, and are removed
abbrev pub Gives : Option (List ℕ) → Option (List ℕ) → ℕ → Type 0
Gives before after n = (given : List ℕ) × Consumes before after given × (length given ≡ n)

-- the source gave at most n bytes
abbrev pub GivesAtMost : Option (List ℕ) → Option (List ℕ) → ℕ → Type 0
GivesAtMost before after n = (given : List ℕ) × Consumes before after given × (length given ≤ n)

-- the sink took a prefix of the text, and not all of it
abbrev pub TakesPart : Option (List ℕ) → Option (List ℕ) → List ℕ → Type 0
TakesPart before after text = (n : ℕ) × (n < length text) × Appends before after (take n text)
