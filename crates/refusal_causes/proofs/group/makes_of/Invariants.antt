use Rattle.std.proofs.Common.{◌≡◌, take}
use Rattle.refusal_causes.specs.inner.Listed.{makes_of}
use Rattle.refusal_causes.proofs.group.makes_of.Given as goal

-- those among the acts so far
abbrev pub invariant-loop-act : goal.invariant-loop-act
invariant-loop-act l = l.makes ≡ makes_of l.points.first (take l.act-index l.acts)
