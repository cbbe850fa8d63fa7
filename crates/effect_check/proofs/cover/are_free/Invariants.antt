use Rattle.std.proofs.Common.{◌≡◌, drop}
use Rattle.std.specs.List.{list_all}
use Rattle.effect_check.specs.inner.Failures.{free, all_free}
use Rattle.effect_check.proofs.cover.are_free.Given as goal

-- all are free if those that are left are
abbrev pub invariant-loop-effect : goal.invariant-loop-effect
invariant-loop-effect l = list_all (λ effect. free l.futures l.point effect) (drop l.effect-index l.effect-items) ≡ all_free l.futures l.point l.effects
