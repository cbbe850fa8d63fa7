use Rattle.std.proofs.Common.{arith}
use Rattle.steal_pool.proofs.CallLemmas.{sets_bound}
use Rattle.steal_pool.proofs.own.set_bound.Goals as goal

pub another-requires : goal.another-requires
another-requires g c = rw (c.requires.fresh.0, c.requires.fresh.1) (sets_bound _ _ (omega (arith, c.requires.bound)))
