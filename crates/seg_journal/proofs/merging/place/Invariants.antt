use Rattle.std.proofs.Common.{◌≡◌, length, drop}
use Rattle.seg_journal.specs.inner.Placing.{lying, placed}
use Rattle.seg_journal.proofs.merging.place.Given as goal

-- the entries that are left lead to the same slots
abbrev pub invariant-loop-e : goal.invariant-loop-e
invariant-loop-e l = record {
  size : length l.slots ≡ length l.initial.slots;
  placed : placed (lying l.slots) (drop l.e-index l.part) ≡ placed (lying l.initial.slots) l.part;
}
