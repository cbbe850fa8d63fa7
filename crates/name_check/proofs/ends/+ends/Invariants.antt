use Rattle.std.proofs.Common.{◌≡◌, drop}
use Rattle.twe_ast.specs.inner.StatementView.{statements_of, arms_of}
use Rattle.name_check.specs.Ends.{one_ends, all_end, close_of}
use Rattle.name_check.proofs.ends.+ends.Given as goal

-- none so far ends the body
abbrev pub invariant-block_ends-loop-stmt : goal.invariant-block_ends-loop-stmt
invariant-block_ends-loop-stmt l = one_ends (statements_of (drop l.stmt-index l.stmt-items) (close_of l.block)) ≡ one_ends l.block

-- each so far does
abbrev pub invariant-arms_end-loop-arm : goal.invariant-arms_end-loop-arm
invariant-arms_end-loop-arm l = all_end (arms_of (drop l.arm-index l.arm-items) l.arms-inside.last) ≡ all_end l.arms
