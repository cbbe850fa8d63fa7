use Rattle.std.proofs.Common.{◌≡◌, drop}
use Rattle.effect_check.specs.inner.Failures.{first_from, declared_failures}
use Rattle.effect_check.proofs.judge.judge_all_declared.Given as goal

-- the first so far and the failures of what is left give the first of all
abbrev pub invariant-loop-act : goal.invariant-loop-act
invariant-loop-act l =
    first_from l.first (declared_failures l.task (drop l.act-index l.acts)) ≡ first_from l.fn.first (declared_failures l.task l.acts)
