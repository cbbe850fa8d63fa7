use Rattle.std.proofs.Common.{◌≡◌, ◌++◌, drop}
use Rattle.twe_program.specs.Statement.{statements_of}
use Rattle.twe_program.specs.inner.StatementView.{arms_of}
use Rattle.effect_check.specs.Acts.{acts_in_all, acts_in_one}
use Rattle.effect_check.proofs.body.+body.Given as goal

-- what is done so far and in what is left is what is done in all
abbrev pub invariant-add_block-loop-stmt : goal.invariant-add_block-loop-stmt
invariant-add_block-loop-stmt l =
    l.acts ++ acts_in_all l.p (statements_of (drop l.stmt-index l.stmt-items)) ≡ l.fn.acts ++ acts_in_all l.p l.block

-- the same of the arms
abbrev pub invariant-add_arms-loop-arm : goal.invariant-add_arms-loop-arm
invariant-add_arms-loop-arm l =
    l.acts ++ acts_in_one l.p l.point (arms_of (drop l.arm-index l.arm-items) l.arms-inside.last) ≡ l.fn.acts ++ acts_in_one l.p l.point l.arms
