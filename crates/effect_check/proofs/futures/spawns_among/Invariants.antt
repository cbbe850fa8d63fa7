use Rattle.std.proofs.Common.{◌≡◌, ◌++◌, drop}
use Rattle.effect_check.specs.inner.Failures.{spawns_among}
use Rattle.effect_check.proofs.futures.spawns_among.Given as goal

-- the spawns so far and those among what is left are those among all
abbrev pub invariant-loop-act : goal.invariant-loop-act
invariant-loop-act l = l.spawns ++ spawns_among (drop l.act-index l.acts) ≡ spawns_among l.acts
