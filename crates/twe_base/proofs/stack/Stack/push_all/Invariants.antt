use Rattle.std.proofs.Common.{◌≡◌, ◌++◌, length}
use Rattle.twe_base.proofs.stack.Stack.push_all.Given as goal

-- what is put and what is left to be put make up the whole
abbrev pub invariant-loop-item : goal.invariant-loop-item
invariant-loop-item g l = l.items ++ l.self ≡ l.fn.items ++ l.initial.self

abbrev pub decreases-loop-item : goal.decreases-loop-item
decreases-loop-item g l = length l.items
