use Rattle.steal_pool.proofs.CallLemmas.{forks}
use Rattle.steal_pool.proofs.own.Own.share.Goals as goal

pub another-pass-requires : goal.another-pass-requires
another-pass-requires c = forks _ c.self.invariant.1 _
