use Rattle.std.proofs.Common.{◌≡◌, ◌++◌, drop}
use Rattle.twe_program.specs.Statement.{statements_of}
use Rattle.twe_program.specs.inner.StatementView.{arms_of}
use Rattle.cover_flow.specs.inner.Transfers.{nothing_passes, passed_all, passed_one, turns_of_all, turns_of_one}
use Rattle.cover_flow.proofs.turns.+pass.Given as goal

-- what is left goes on from here as all of them do from the start
abbrev pub invariant-pass_block-loop-stmt : goal.invariant-pass_block-loop-stmt
invariant-pass_block-loop-stmt l = record {
  after : passed_all l.first (statements_of (drop l.stmt-index l.stmt-items)) l.after ≡ passed_all l.first l.block l.fn.before;
  turns : l.turns ++ turns_of_all l.first (statements_of (drop l.stmt-index l.stmt-items)) ≡ l.fn.turns ++ turns_of_all l.first l.block;
}

-- the branches so far and what is left show what all of them show
abbrev pub invariant-pass_arms-loop-arm : goal.invariant-pass_arms-loop-arm
invariant-pass_arms-loop-arm l = record {
  after : passed_one l.first l.after (arms_of (drop l.arm-index l.arm-items) l.arms-inside.last) l.before ≡ passed_one l.first nothing_passes l.arms l.before;
  turns : l.turns ++ turns_of_one l.first (arms_of (drop l.arm-index l.arm-items) l.arms-inside.last) ≡ l.fn.turns ++ turns_of_one l.first l.arms;
}
