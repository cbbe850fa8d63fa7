use Rattle.std.proofs.Common.{◌≡◌, ◌++◌, drop}
use Rattle.effect_check.specs.inner.Failures.{followed}
use Rattle.effect_check.proofs.futures.followed.Given as goal

-- those so far and those among what is left are those among all
abbrev pub invariant-loop-spawn : goal.invariant-loop-spawn
invariant-loop-spawn l = l.some ++ followed l.points (drop l.spawn-index l.spawns) ≡ followed l.points l.spawns
