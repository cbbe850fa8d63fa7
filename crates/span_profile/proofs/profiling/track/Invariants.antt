use Rattle.std.proofs.Common.{◌≡◌, length, map, take}
use Rattle.seg_journal.specs.Spelling.{move_of}
use Rattle.span_profile.specs.inner.Tracked.{IsTracked}
use Rattle.span_profile.proofs.profiling.track.Given as goal

-- the moves up to here were taken
abbrev pub invariant-loop-i : goal.invariant-loop-i
invariant-loop-i l = record { tracked : IsTracked l.p l.lim l.run; moves : map move_of l.run.journal ≡ take l.i l.moves; chain : l.run.trail.chain ≡ l.fn.chain; count : length l.run.journal ≡ l.i }
