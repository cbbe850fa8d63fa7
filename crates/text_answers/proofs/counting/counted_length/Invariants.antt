use Rattle.std.proofs.Common.{◌≡◌, ◌+◌, drop, length}
use Rattle.machine_state.specs.Runs.{counted}
use Rattle.text_answers.proofs.counting.counted_length.Given as goal

-- no entry before this place is a fault
abbrev pub invariant-loop-i : goal.invariant-loop-i
invariant-loop-i l = length (counted l.entries) ≡ l.i + length (counted (drop l.i l.entries))
