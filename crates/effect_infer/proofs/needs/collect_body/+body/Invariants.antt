use Rattle.std.proofs.Common.{◌≡◌, ◌++◌, drop}
use Rattle.twe_program.specs.Statement.{statements_of}
use Rattle.twe_program.specs.inner.StatementView.{arms_of}
use Rattle.effect_infer.specs.needs.Steps.{steps_in_all, steps_in_one}
use Rattle.effect_infer.proofs.needs.collect_body.+body.Given as goal

-- what is done so far and in what is left is what is done in all
abbrev pub invariant-add_block-loop-stmt : goal.invariant-add_block-loop-stmt
invariant-add_block-loop-stmt l =
    l.steps ++ steps_in_all l.cells (statements_of (drop l.stmt-index l.stmt-items)) ≡ l.fn.steps ++ steps_in_all l.cells l.block

-- the same of the arms
abbrev pub invariant-add_arms-loop-arm : goal.invariant-add_arms-loop-arm
invariant-add_arms-loop-arm l =
    l.steps ++ steps_in_one l.cells (arms_of (drop l.arm-index l.arm-items) l.arms-inside.last) ≡ l.fn.steps ++ steps_in_one l.cells l.arms
