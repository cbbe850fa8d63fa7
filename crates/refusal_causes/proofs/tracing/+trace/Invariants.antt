use Rattle.std.proofs.Common.{◌≡◌, drop}
use Rattle.twe_program.specs.Statement.{statements_of}
use Rattle.twe_program.specs.inner.StatementView.{arms_of}
use Rattle.refusal_causes.specs.inner.Traced.{nowhere, traced_all, traced_one}
use Rattle.refusal_causes.proofs.tracing.+trace.Given as goal

-- what is left goes on from here as all of them do from the start
abbrev pub invariant-trace_block-loop-stmt : goal.invariant-trace_block-loop-stmt
invariant-trace_block-loop-stmt l =
    traced_all l.future (statements_of (drop l.stmt-index l.stmt-items)) l.ways ≡ traced_all l.future l.block l.fn.ways

-- the branches so far and what is left show what all of them show
abbrev pub invariant-trace_arms-loop-arm : goal.invariant-trace_arms-loop-arm
invariant-trace_arms-loop-arm l =
    traced_one l.future l.after (arms_of (drop l.arm-index l.arm-items) l.arms-inside.last) l.ways ≡ traced_one l.future nowhere l.arms l.ways
