use Rattle.std.proofs.Common.{length, ◌-◌}
use Rattle.twe_io.proofs.Progress.{Sent}
use Rattle.twe_io.proofs.whole.write_whole.Given as goal

abbrev pub invariant-loop-taken : goal.invariant-loop-taken
invariant-loop-taken g l = Sent g.K.Sink.faults g.K.Sink.written g.K.Sink.write_gives l.initial.sink l.sink l.text l.taken

abbrev pub decreases-loop-taken : goal.decreases-loop-taken
decreases-loop-taken g l = length l.text - l.taken
