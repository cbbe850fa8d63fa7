use Rattle.std.proofs.Common.{◌≡◌, ◌<◌, ◌+◌, ◌^◌, length}
use Rattle.held_span.proofs.keys.number_keys.Given as goal

-- so many numbers
abbrev pub invariant-loop-task : goal.invariant-loop-task
invariant-loop-task l = record {
  many : length l.numbers ≡ l.task;
  few : length l.numbers < 2 ^ 32;
}

-- and those of so many effects after the tasks
abbrev pub invariant-loop-effect : goal.invariant-loop-effect
invariant-loop-effect l = record {
  many : length l.numbers ≡ l.tasks + l.effect;
  few : length l.numbers < 2 ^ 32;
}
