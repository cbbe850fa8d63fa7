use Rattle.steal_pool.proofs.other.take_first.Goals as goal

pub steal_as-requires-clause-takes : goal.steal_as-requires-clause-takes
steal_as-requires-clause-takes g c = rw (c.loop.invariant.1, c.loop.invariant.2) c.requires.takes

pub steal_as-requires-clause-empty : goal.steal_as-requires-clause-empty
steal_as-requires-clause-empty g c = rw (c.loop.invariant.1, c.loop.invariant.2) c.requires.empty
