use Rattle.std.proofs.Common.{◌≡◌, ◌++◌, pos, replicate}
use Rattle.seg_exec.specs.inner.steps.Bodies.{with_active}
use Rattle.seg_exec.proofs.body.push_zeros.Given as goal

-- so many zeros are appended
abbrev pub invariant-loop : goal.invariant-loop
invariant-loop l = l.vars ≡ with_active (l.fn.vars.active ++ replicate l.counter (pos 0)) l.fn.vars
