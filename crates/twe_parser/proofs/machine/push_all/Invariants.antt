use Rattle.std.proofs.Common.{◌≡◌, ◌++◌, length}
use Rattle.twe_parser.proofs.machine.push_all.Given as goal

-- the symbols that are left and those on the stack make up the whole
abbrev pub invariant-loop-symbol : goal.invariant-loop-symbol
invariant-loop-symbol l = l.symbols ++ l.stack ≡ l.fn.symbols ++ l.initial.stack

abbrev pub decreases-loop-symbol : goal.decreases-loop-symbol
decreases-loop-symbol l = length l.symbols
