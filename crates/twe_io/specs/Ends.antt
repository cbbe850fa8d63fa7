-- The outside of a call: the source that it reads and the two sinks that it writes to, as far as they say what they hold.
use Rattle.std.specs.Prelude.{◌≡◌, ◌+◌, ◌≤◌, ◌<◌, ℕ, List, length, drop, Option, None, IfSome, Result, Ok, Err}
use Rattle.std.specs.Io.KnownBytes.{Appends, IsAtEnd}
use Rattle.twe_base.specs.Language.{max_text_bytes}
use Rattle.twe_io.specs.Faults.{Rose}
use Rattle.twe_io.specs.Told.{Gives, TakesPart}
use Rattle.twe_io.specs.Runs.{ReadsWhole, WriteCalls}
use Rattle.twe_io.specs.declared.whole.ReadFail.{ReadFail}
use Rattle.twe_io.specs.declared.whole.ReadFail.TheVariants.{ReadFault, TooLong, OutOfMemory}

-- what is known of a source: the bytes that are left, if it says so; how many reads have failed; and what one read does, by
-- the bytes that it gives
pub record SourceTells (S : Type 0) : Type 1 where
  pub left : S → Option (List ℕ)
  pub faults : S → ℕ
  pub gives : S → ℕ → Option (List ℕ) → S → Type 0

-- a source that is described so
abbrev pub source : {S : Type 0} → (S → Option (List ℕ)) → (S → ℕ) → (S → ℕ → Option (List ℕ) → S → Type 0) → SourceTells S
source left faults gives = record { left = left; faults = faults; gives = gives }

-- what is known of a sink: the bytes that were written, if it says so; how many writes have failed; and what one write does
pub record SinkTells (K : Type 0) : Type 1 where
  pub written : K → Option (List ℕ)
  pub faults : K → ℕ
  pub gives : K → List ℕ → Option ℕ → K → Type 0

-- a sink that is described so
abbrev pub sink : {K : Type 0} → (K → Option (List ℕ)) → (K → ℕ) → (K → List ℕ → Option ℕ → K → Type 0) → SinkTells K
sink written faults gives = record { written = written; faults = faults; gives = gives }

-- what is known of the three ends of a program: the source that it reads and its two sinks, out and err
pub record EndsTell (S O E : Type 0) : Type 1 where
  pub src : SourceTells S
  pub out : SinkTells O
  pub err : SinkTells E

-- three ends that are described so
abbrev pub ends_tell : {S O E : Type 0} → SourceTells S → SinkTells O → SinkTells E → EndsTell S O E
ends_tell src out err = record { src = src; out = out; err = err }

-- the ends of a program at one moment
pub record Ends (S O E : Type 0) : Type 0 where
  pub src : S
  pub out : O
  pub err : E

-- these ends
abbrev pub ends : {S O E : Type 0} → S → O → E → Ends S O E
ends src out err = record { src = src; out = out; err = err }

-- What the reading of a whole text says of the bytes of a source: the text is all that was left; or a read failed; or the
-- source gave more bytes than a text may have.
abbrev pub Told : {S : Type 0} → SourceTells S → S → Result (List ℕ) ReadFail → S → Type 0
Told tells before (Ok text) after =
    IfSome (tells.left before) (λ left. text ≡ left) × IsAtEnd (tells.left after) × (length text ≤ max_text_bytes)
Told tells before (Err ReadFault) after = Rose (tells.faults before) (tells.faults after)
Told tells before (Err TooLong) after =
    IfSome (tells.left before) (λ _. Gives (tells.left before) (tells.left after) (max_text_bytes + 1))
Told tells before (Err (OutOfMemory memory)) after = Unit {0}

-- the reading of the source came to this result: exactly these reads were made, and a text that was read is what they gave
pub record WasRead {S : Type 0} (tells : SourceTells S)
    (before : S) (answer : Result (List ℕ) ReadFail) (after : S) : Type 0 where
  pub reads : ReadsWhole tells.gives max_text_bytes before answer after
  pub told : Told tells before answer after

-- the sink took the whole text: exactly these writes were made, and none failed
pub record Took {K : Type 0} (tells : SinkTells K) (text : List ℕ) (before after : K) : Type 0 where
  pub writes : WriteCalls tells.gives text before (length text) after
  pub appended : Appends (tells.written before) (tells.written after) text

-- a write failed before the sink had taken the whole text, and no write was made after it
pub record BrokeOff {K : Type 0} (tells : SinkTells K) (text : List ℕ) (before after : K) : Type 0 where
  pub taken : ℕ
  pub failing : K
  pub less : taken < length text
  pub writes : WriteCalls tells.gives text before taken failing
  pub fails : tells.gives failing (drop taken text) None after
  pub part : TakesPart (tells.written before) (tells.written after) text
  pub fault : Rose (tells.faults before) (tells.faults after)
