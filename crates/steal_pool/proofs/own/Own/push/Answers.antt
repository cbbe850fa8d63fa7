use Rattle.std.proofs.Common.{◌<◌, sym, subst}
use Rattle.steal_pool.specs.inner.Single.{DeckEnd}
use Rattle.steal_pool.proofs.CallLemmas.{pushes}
use Rattle.steal_pool.proofs.own.Own.push.Goals as goal

pub push_as-requires-clause-pushes : goal.push_as-requires-clause-pushes
push_as-requires-clause-pushes c =
    pushes _ c.self.invariant.1 _ _ (subst (λ (own : DeckEnd). c.args.number < own.hand.bound) (sym c.self.view_is) c.requires.below)
