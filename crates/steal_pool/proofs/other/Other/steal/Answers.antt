use Rattle.steal_pool.proofs.CallLemmas.{takes, finds_few}
use Rattle.steal_pool.proofs.other.Other.steal.Goals as goal

pub take_first-requires-clause-takes : goal.take_first-requires-clause-takes
take_first-requires-clause-takes g c = takes _ _ c.self.invariant.1

pub take_first-requires-clause-empty : goal.take_first-requires-clause-empty
take_first-requires-clause-empty g c = finds_few _ c.self.invariant.0 _ _
