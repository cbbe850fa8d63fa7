use Rattle.std.proofs.Common.{◌≡◌, ◌++◌, drop}
use Rattle.seg_journal.specs.Merging.{journal_of, prints_of}
use Rattle.seg_journal.specs.inner.Placing.{lying, present}
use Rattle.seg_journal.proofs.merging.collect.Given as goal

abbrev pub invariant-loop-slot : goal.invariant-loop-slot
invariant-loop-slot l = record {
  journal : l.journal.items ++ journal_of (present (lying (drop l.slot-index l.slots))) ≡ journal_of (present (lying l.slots));
  prints : l.prints ++ prints_of (present (lying (drop l.slot-index l.slots))) ≡ prints_of (present (lying l.slots));
}
