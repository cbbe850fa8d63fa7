use Rattle.std.proofs.Common.{◌≡◌, ◌≤◌, ◌+◌, ◌<◌, ◌++◌, ℕ, false, get_or, map, take}
use Rattle.std.specs.Prelude.{vec_len, vec_capacity}
use Rattle.core.specs.Mem.Slots.{slots_filled, slots_items, slots_len}
use Rattle.core.specs.Mem.Slots.Ownership.{Filled}
use Rattle.task_floor.specs.inner.Emptying.{task_in}
use Rattle.task_floor.specs.steps.inner.Reading.{held_in}
use Rattle.task_floor.proofs.emptying.take_tasks.Given as goal

-- the slots so far are empty, and the others hold what they held
abbrev pub invariant-loop-i : goal.invariant-loop-i
invariant-loop-i l = record {
  count : vec_len l.tasks ≤ vec_len l.initial.tasks + l.i;
  room : vec_capacity l.tasks ≡ vec_capacity l.initial.tasks;
  same : slots_items l.closed.slots ≡ slots_items l.initial.closed.slots;
  words : l.closed.words ≡ l.initial.closed.words;
  size : slots_len l.closed.slots ≡ slots_len l.initial.closed.slots;
  items : l.tasks.items ≡ l.initial.tasks.items ++ held_in (map task_in (take l.i (slots_items l.closed.slots)));
  full : Filled (slots_filled l.closed.slots) l.i (slots_len l.closed.slots);
  empty : (k : ℕ) → k < l.i → get_or (slots_filled l.closed.slots) k false ≡ false;
}
