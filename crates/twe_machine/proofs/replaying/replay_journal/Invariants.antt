use Rattle.std.proofs.Common.{◌≡◌, length, map, take}
use Rattle.seg_journal.specs.Spelling.{move_of}
use Rattle.twe_machine.specs.inner.UnderWay.{IsUnderWay}
use Rattle.twe_machine.proofs.replaying.replay_journal.Given as goal

-- the moves up to here were replayed
abbrev pub invariant-loop-i : goal.invariant-loop-i
invariant-loop-i l = record { so_far : IsUnderWay l.p l.lim l.run; moves : map move_of l.run.journal ≡ take l.i l.moves; count : length l.run.journal ≡ l.i }
