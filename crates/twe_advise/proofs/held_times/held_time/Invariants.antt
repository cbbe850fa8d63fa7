use Rattle.std.proofs.Common.{◌≡◌, ◌*◌, ◌≤◌, ◌^◌, sum_by, take}
use Rattle.twe_advise.specs.HeldTimes.{hold_time}
use Rattle.twe_advise.proofs.held_times.held_time.Given as goal

-- the times of the holds up to here were added, each of which fits 64 bits
abbrev pub invariant-loop-hold : goal.invariant-loop-hold
invariant-loop-hold l = record {
  sum : l.time ≡ sum_by (hold_time l.rows l.number) (take l.hold-index l.holds);
  small : l.time ≤ l.hold-index * 2 ^ 64;
}
