-- Calls that fail on purpose, listed by their numbers. The calls of a source or a sink are counted from 1.
use Rattle.std.specs.Prelude.{◌<◌, ◌≤◌, ℕ, List, Contains}
use Rattle.twe_io.specs.Faults.{one_more}

-- one of the calls after the first `from`, up to the call of number `to`, is listed to fail
pub record NamedBetween (named : List ℕ) (from to : ℕ) : Type 0 where
  pub number : ℕ
  pub is_named : Contains named number
  pub after : from < number
  pub up_to : number ≤ to

-- the call after the first `calls` calls is listed to fail
abbrev pub NextIsNamed : List ℕ → ℕ → Type 0
NextIsNamed named calls = NamedBetween named calls (one_more calls)

-- `first` is the number of the first call that is listed to fail
pub record IsFirstNamed (named : List ℕ) (first : ℕ) : Type 0 where
  pub is_named : Contains named first
  pub counted : 1 ≤ first
  pub least : (number : ℕ) → Contains named number → 1 ≤ number → first ≤ number
