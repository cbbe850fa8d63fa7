use Rattle.std.proofs.Common.{◌≡◌, ◌<◌, ℕ, vec_len}
use Rattle.wait_graph.specs.StuckCycle.{holder_of}
use Rattle.flat_sched.specs.Stuck.{IsHolder}
use Rattle.flat_sched.proofs.stuck.holders.Given as goal

abbrev pub invariant-loop-t : goal.invariant-loop-t
invariant-loop-t l = (vec_len l.held ≡ l.t) × ((t : ℕ) → t < l.t → IsHolder l.st t (holder_of l.held.items t))
