use Rattle.std.proofs.Common.{◌≡◌, drop}
use Rattle.twe_program.specs.Statement.{statements_of}
use Rattle.twe_program.specs.inner.StatementView.{arms_of}
use Rattle.refusal_causes.specs.inner.Traced.{nowhere, traced_all, traced_one}
use Rattle.refusal_causes.specs.inner.Reached.{reached_all, reached_one}
use Rattle.refusal_causes.proofs.reaching.+reach.Given as goal

-- what is left goes on from here as all of them do from the start
abbrev pub invariant-reach_block-loop-stmt : goal.invariant-reach_block-loop-stmt
invariant-reach_block-loop-stmt l = record {
  after : traced_all l.aim.future (statements_of (drop l.stmt-index l.stmt-items)) l.ways ≡ traced_all l.aim.future l.block l.fn.ways;
  found : reached_all l.aim.future l.aim.point l.aim.end (statements_of (drop l.stmt-index l.stmt-items)) l.ways l.found
      ≡ reached_all l.aim.future l.aim.point l.aim.end l.block l.fn.ways l.fn.found;
}

-- the branches so far and what is left show what all of them show
abbrev pub invariant-reach_arms-loop-arm : goal.invariant-reach_arms-loop-arm
invariant-reach_arms-loop-arm l = record {
  after : traced_one l.aim.future l.after (arms_of (drop l.arm-index l.arm-items) l.arms-inside.last) l.ways
      ≡ traced_one l.aim.future nowhere l.arms l.ways;
  found : reached_one l.aim.future l.aim.point l.aim.end (arms_of (drop l.arm-index l.arm-items) l.arms-inside.last) l.ways l.found
      ≡ reached_one l.aim.future l.aim.point l.aim.end l.arms l.ways l.fn.found;
}
