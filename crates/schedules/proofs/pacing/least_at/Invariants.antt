use Rattle.std.proofs.Common.{◌<◌, ◌≤◌, ℕ, length}
use Rattle.std.specs.Prelude.{slice_index}
use Rattle.schedules.proofs.pacing.least_at.Given as goal

-- the least of the numbers up to here
abbrev pub invariant-loop-k : goal.invariant-loop-k
invariant-loop-k l = record {
  there : l.least < length l.numbers;
  least : (k : ℕ) → k < l.k → slice_index l.numbers l.least ≤ slice_index l.numbers k;
}
