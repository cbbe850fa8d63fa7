use Rattle.std.proofs.Common.{◌≡◌, drop}
use Rattle.effect_check.specs.Acts.{acts_in_all}
use Rattle.effect_check.specs.inner.Failures.{first_from, method_failures}
use Rattle.effect_check.proofs.judge.judge_method.Given as goal

-- the first so far and the failures of what is left give the first of all
abbrev pub invariant-loop-act : goal.invariant-loop-act
invariant-loop-act l =
    first_from l.first (method_failures l.method (drop l.act-index l.act-items))
    ≡ first_from l.fn.first (method_failures l.method (acts_in_all l.p l.method.body.block))
