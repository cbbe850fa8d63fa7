use Rattle.std.proofs.Common.{◌≡◌}
use Rattle.task_floor.specs.steps.inner.Reading.{links_to}
use Rattle.task_floor.proofs.linking.links_of.Given as goal

abbrev pub invariant-loop-t : goal.invariant-loop-t
invariant-loop-t l = l.links ≡ links_to l.t l.rows
