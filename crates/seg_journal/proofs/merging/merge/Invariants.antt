use Rattle.std.proofs.Common.{◌≡◌, length, drop}
use Rattle.seg_journal.specs.Merging.{all_of}
use Rattle.seg_journal.specs.inner.Placing.{lying, placed}
use Rattle.seg_journal.proofs.merging.merge.Given as goal

-- the parts that are left lead to the same slots
abbrev pub invariant-loop-part : goal.invariant-loop-part
invariant-loop-part l = record {
  size : length l.slots ≡ length (all_of l.parts);
  placed : placed (lying l.slots) (all_of (drop l.part-index l.parts)) ≡ placed (lying l.initial.slots) (all_of l.parts);
}
