use Rattle.std.proofs.Common.{◌-◌, ◌<◌, ◌≤◌, vec_len}
use Rattle.twe_io.proofs.whole.buffer_for.Given as goal

abbrev pub invariant-loop-zeros : goal.invariant-loop-zeros
invariant-loop-zeros l = record {
  within : vec_len l.buffer ≤ l.size;
  some : 0 < vec_len l.zeros;
}

abbrev pub decreases-loop-zeros : goal.decreases-loop-zeros
decreases-loop-zeros l = l.size - vec_len l.buffer
