use Rattle.std.proofs.Common.{◌≡◌, ◌+◌, length, drop}
use Rattle.std.specs.Prelude.{vec_len}
use Rattle.seg_journal.specs.Merging.{all_of}
use Rattle.seg_journal.proofs.merging.empty_slots.Given as goal

abbrev pub invariant-loop-part : goal.invariant-loop-part
invariant-loop-part l = vec_len l.slots + length (all_of (drop l.part-index l.parts)) ≡ length (all_of l.parts)
