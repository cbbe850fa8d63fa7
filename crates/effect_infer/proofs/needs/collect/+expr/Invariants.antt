use Rattle.std.proofs.Common.{◌≡◌, ◌++◌, drop}
use Rattle.twe_program.specs.Expression.{arguments_of}
use Rattle.effect_infer.specs.needs.Steps.{steps_of_all}
use Rattle.effect_infer.proofs.needs.collect.+expr.Given as goal

-- what is done so far and for what is left is what is done for all
abbrev pub invariant-add_args-loop-arg : goal.invariant-add_args-loop-arg
invariant-add_args-loop-arg l =
    l.steps ++ steps_of_all l.cells (arguments_of (drop l.arg-index l.arg-items)) ≡ l.fn.steps ++ steps_of_all l.cells l.args
