-- Sequences of calls. A source or a sink may describe one call by a relation `gives` of four things: its state before
-- the call, what was passed to the call, what came of it (`None` if it failed), and its state after. What comes of a read
-- is the bytes that it gave, and of a write how many bytes it took.
use Rattle.std.specs.Prelude.{◌≡◌, ◌<◌, ◌-◌, ℕ, ◌+◌, List, [], ◌++◌, length, drop, Option, None, Some, Result, Ok, Err, MatchResult}
use Rattle.twe_io.specs.declared.whole.ReadFail.{ReadFail}
use Rattle.twe_io.specs.declared.whole.ReadFail.TheVariants.{ReadFault, TooLong, OutOfMemory}

-- Reads of a source, one after another. Each gave at least one byte, and what they gave makes this text, one piece after
-- another. Each is passed the part of the buffer that the reads before it left empty.
pub data Reads {S : Type 0} (gives : S → ℕ → Option (List ℕ) → S → Type 0) (room : ℕ) (first : S) : List ℕ → S → Type 0 where
  none : Reads gives room first [] first
  read : {text : List ℕ} {before after : S} (given more : List ℕ) → Reads gives room first given before → length given < room
      → 0 < length more → gives before (room - length given) (Some more) after → given ++ more ≡ text
      → Reads gives room first text after

-- reads that gave this text, and then one more read with this answer
pub record ReadsThen {S : Type 0} (gives : S → ℕ → Option (List ℕ) → S → Type 0)
    (room : ℕ) (first : S) (text : List ℕ) (answer : Option (List ℕ)) (last : S) : Type 0 where
  pub before : S
  pub less : length text < room
  pub reads : Reads gives room first text before
  pub ends : gives before (room - length text) answer last

-- The reads of `read_all`, into a buffer one byte larger than the limit. They gave the text that is returned, and end with
-- a read that gives nothing; or they end with a read that fails, or once the buffer is full. Without memory for the buffer
-- there are no reads.
abbrev pub ReadsWhole : {S : Type 0} → (S → ℕ → Option (List ℕ) → S → Type 0) → ℕ → S → Result (List ℕ) ReadFail → S → Type 0
ReadsWhole gives limit first (Ok text) last = ReadsThen gives (limit + 1) first text (Some []) last
ReadsWhole gives limit first (Err ReadFault) last = (given : List ℕ) × ReadsThen gives (limit + 1) first given None last
ReadsWhole gives limit first (Err TooLong) last =
    (given : List ℕ) × (length given ≡ limit + 1) × Reads gives (limit + 1) first given last
ReadsWhole gives limit first (Err (OutOfMemory memory)) last = last ≡ first

-- WriteCalls of a text to a sink, all of which succeeded. Each is passed the text that is left, and together they took n
-- bytes.
pub data WriteCalls {S : Type 0} (gives : S → List ℕ → Option ℕ → S → Type 0) (text : List ℕ) (first : S) : ℕ → S → Type 0 where
  none : WriteCalls gives text first 0 first
  write : {n : ℕ} {before after : S} (taken more : ℕ) → WriteCalls gives text first taken before → taken < length text → 0 < more
      → gives before (drop taken text) (Some more) after → taken + more ≡ n → WriteCalls gives text first n after

-- The writes of `write_whole`: of the whole text, or up to a write that failed.
abbrev pub WritesWhole : {S E : Type 0} → (S → List ℕ → Option ℕ → S → Type 0) → List ℕ → S → Result Unit E → S → Type 0
WritesWhole {S} gives text first result last = MatchResult result
    (λ _. WriteCalls gives text first (length text) last)
    (λ _. (taken : ℕ) × (before : S) × (taken < length text) × WriteCalls gives text first taken before
    × gives before (drop taken text) None last)
