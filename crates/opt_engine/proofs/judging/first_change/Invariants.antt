use Rattle.std.proofs.Common.{take}
use Rattle.std.specs.List.{All}
use Rattle.opt_engine.specs.Drafts.{StandsIn}
use Rattle.opt_engine.proofs.judging.first_change.Given as goal

abbrev pub invariant-loop-read : goal.invariant-loop-read
invariant-loop-read l = All (StandsIn l.cells) (take l.read-index l.reads)
