use Rattle.std.proofs.Common.{◌≡◌, length}
use Rattle.twe_parser.specs.inner.Machine.{after}
use Rattle.twe_parser.proofs.machine.Machine.take.Given as goal

-- the token leads to the same result as from the start
abbrev pub invariant-loop-symbol : goal.invariant-loop-symbol
invariant-loop-symbol l = after l.token l.self.stack l.self.values ≡ after l.token l.fn.self.stack l.fn.self.values

abbrev pub decreases-loop-symbol : goal.decreases-loop-symbol
decreases-loop-symbol l = length l.self.stack
