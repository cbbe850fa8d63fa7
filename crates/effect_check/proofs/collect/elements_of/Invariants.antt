use Rattle.std.proofs.Common.{◌≡◌, ◌++◌, drop}
use Rattle.twe_program.specs.Expression.{arguments_of}
use Rattle.effect_check.specs.Standing.{elements_of}
use Rattle.effect_check.proofs.collect.elements_of.Given as goal

-- the elements so far and those of what is left are those of all
abbrev pub invariant-loop-arg : goal.invariant-loop-arg
invariant-loop-arg l = l.elems ++ elements_of (arguments_of (drop l.arg-index l.arg-items)) ≡ elements_of l.args
