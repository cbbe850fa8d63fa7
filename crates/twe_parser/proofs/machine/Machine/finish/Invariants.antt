use Rattle.std.proofs.Common.{◌≡◌, length}
use Rattle.twe_parser.specs.inner.Machine.{finished}
use Rattle.twe_parser.proofs.machine.Machine.finish.Given as goal

-- the machine finishes with the same result as from the start
abbrev pub invariant-loop-symbol : goal.invariant-loop-symbol
invariant-loop-symbol l = finished l.stack l.values ≡ finished l.fn.self.stack l.fn.self.values

abbrev pub decreases-loop-symbol : goal.decreases-loop-symbol
decreases-loop-symbol l = length l.stack
