use Rattle.std.proofs.Common.{length, ◌-◌}
use Rattle.twe_io.proofs.Progress.{Filled}
use Rattle.twe_io.proofs.whole.fill.Given as goal

abbrev pub invariant-loop-taken : goal.invariant-loop-taken
invariant-loop-taken g l = Filled g.S.Source.faults g.S.Source.left g.S.Source.read_gives l.initial.source l.source l.buffer l.taken

abbrev pub decreases-loop-taken : goal.decreases-loop-taken
decreases-loop-taken g l = length l.initial.buffer - l.taken
