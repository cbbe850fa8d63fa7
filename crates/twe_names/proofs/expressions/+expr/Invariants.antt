use Rattle.std.proofs.Common.{◌≡◌, take, map}
use Rattle.twe_names.specs.BodyMeaning.{expression_of}
use Rattle.twe_names.proofs.expressions.+expr.Given as goal

-- the arguments so far
abbrev pub invariant-arguments-loop-arg : goal.invariant-arguments-loop-arg
invariant-arguments-loop-arg l = l.items.items ≡ map (expression_of l.globals l.locals) (take l.arg-index l.arg-items)
