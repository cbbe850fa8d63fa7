use Rattle.std.proofs.Common.{List, ℕ, subst, sym}
use Rattle.flat_sched.specs.inner.Lists.{IsListed}
use Rattle.flat_sched.proofs.Listing.{listed_more}
use Rattle.flat_sched.proofs.lists.reach.Goals as goal

-- an empty list more
pub reaching-preserved : goal.reaching-preserved
reaching-preserved c = λ u t h.
    subst (λ (lists : List (List ℕ)). IsListed lists u t) (sym c.in_ok-push.ensures.ok) (listed_more c.reaching.lists c.new.result u t (c.reaching.invariant u t h))
