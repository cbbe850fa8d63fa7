use Rattle.std.proofs.Common.{◌≡◌, ◌++◌, drop}
use Rattle.twe_program.specs.Expression.{arguments_of}
use Rattle.effect_check.specs.Acts.{acts_of_all}
use Rattle.effect_check.proofs.collect.+expr.Given as goal

-- what is done so far and for what is left is what is done for all
abbrev pub invariant-add_args-loop-arg : goal.invariant-add_args-loop-arg
invariant-add_args-loop-arg l =
    l.acts ++ acts_of_all l.p l.point (arguments_of (drop l.arg-index l.arg-items)) ≡ l.fn.acts ++ acts_of_all l.p l.point l.args
