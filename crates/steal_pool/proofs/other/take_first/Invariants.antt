use Rattle.std.proofs.Common.{◌≡◌}
use Rattle.crossbeam_deque.specs.Handles.{view, IsPassOf, stealer_deque}
use Rattle.steal_pool.proofs.other.take_first.Given as goal

-- the same pass, which knows what it knew
abbrev pub invariant-loop : goal.invariant-loop
invariant-loop g l = IsPassOf (stealer_deque l.stealer) l.pass × (l.pass.id ≡ l.initial.pass.id) × (view l.pass ≡ view l.initial.pass)
