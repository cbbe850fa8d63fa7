use Rattle.std.proofs.Common.{◌≡◌, ◌<◌, ℕ, false, get_or}
use Rattle.core.specs.Mem.Slots.{slots_filled, slots_len}
use Rattle.core.specs.Mem.Slots.Ownership.{Filled}
use Rattle.task_floor.proofs.emptying.drop_nodes.Given as goal

-- the slots so far are empty, and the others are not
abbrev pub invariant-loop-i : goal.invariant-loop-i
invariant-loop-i l = record {
  words : l.closed.words ≡ l.initial.closed.words;
  size : slots_len l.closed.slots ≡ slots_len l.initial.closed.slots;
  full : Filled (slots_filled l.closed.slots) l.i (slots_len l.closed.slots);
  empty : (k : ℕ) → k < l.i → get_or (slots_filled l.closed.slots) k false ≡ false;
}
