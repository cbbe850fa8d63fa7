-- The source and the sink in memory, whose calls move a few bytes each, and which fail in listed calls.
use Rattle.std.specs.Prelude.{◌≡◌, ◌⊎◌, ◌≤◌, ◌+◌, ◌-◌, ℕ, List, ◌++◌, length, take, drop, min, Option, None, Some}
use Rattle.twe_io.specs.Faults.{one_more}
use Rattle.twe_io.specs.Named.{NextIsNamed, IsFirstNamed}

-- A source: its bytes, and how many of them were read; how many a call gives at most; how many calls were made, the
-- numbers of the calls that fail, and how many calls failed.
pub record MemReading : Type 0 where
  pub bytes : List ℕ
  pub at : ℕ
  pub step : ℕ
  pub calls : ℕ
  pub fails : List ℕ
  pub faults : ℕ

-- the bytes left to read
abbrev pub mem_left_of : MemReading → List ℕ
mem_left_of source = drop source.at source.bytes

-- One read into a buffer of this size. It gives the first of the bytes left, as many as fit, but no more than a call gives at
-- most. A read that fails changes only the counts of calls and faults.
abbrev pub ReadsMem : MemReading → ℕ → Option (List ℕ) → MemReading → Type 0
ReadsMem before room None after =
    NextIsNamed before.fails before.calls
    × (after ≡ record before { calls = one_more before.calls; faults = one_more before.faults })
ReadsMem before room (Some given) after =
    (¬ NextIsNamed before.fails before.calls)
    × (given ≡ take (min room before.step) (mem_left_of before))
    × (after ≡ record before { at = before.at + length given; calls = one_more before.calls })

-- A sink: the bytes written so far, and its size; how many bytes a call takes at most; how many calls were made, the
-- numbers of the calls that fail, and how many calls failed.
pub record MemWriting : Type 0 where
  pub bytes : List ℕ
  pub room : ℕ
  pub step : ℕ
  pub calls : ℕ
  pub fails : List ℕ
  pub faults : ℕ

-- the next write fails: it is listed to fail, or the sink is full
abbrev pub FailsNext : MemWriting → Type 0
FailsNext sink = (sink.room ≤ length sink.bytes) ⊎ NextIsNamed sink.fails sink.calls

-- One write of a piece. A write that fails changes only the counts of calls and faults.
abbrev pub WritesMem : MemWriting → List ℕ → Option ℕ → MemWriting → Type 0
WritesMem before piece None after =
    FailsNext before
    × (after ≡ record before { calls = one_more before.calls; faults = one_more before.faults })
WritesMem before piece (Some n) after =
    (¬ FailsNext before)
    × (n ≡ min (length piece) (min before.step (before.room - length before.bytes)))
    × (after ≡ record before { bytes = before.bytes ++ take n piece; calls = one_more before.calls })

-- A text is about to be written to a new sink: no call was made yet, there is room for the whole text, and the call of
-- number `first` is the first that fails.
pub record IsFirstUse (sink : MemWriting) (text : List ℕ) (first : ℕ) : Type 0 where
  pub unused : sink.calls ≡ 0
  pub roomy : length sink.bytes + length text ≤ sink.room
  pub named : IsFirstNamed sink.fails first
