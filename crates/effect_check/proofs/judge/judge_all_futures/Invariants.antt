use Rattle.std.proofs.Common.{◌≡◌, drop}
use Rattle.effect_check.specs.inner.Failures.{first_from, future_failures}
use Rattle.effect_check.proofs.judge.judge_all_futures.Given as goal

-- the first so far and the failures at what is left give the first of all
abbrev pub invariant-loop-act : goal.invariant-loop-act
invariant-loop-act l =
    first_from l.first (future_failures l.futures (drop l.act-index l.acts)) ≡ first_from l.fn.first (future_failures l.futures l.acts)
