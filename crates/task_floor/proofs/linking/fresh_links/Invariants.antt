use Rattle.std.proofs.Common.{◌≡◌, map, take}
use Rattle.task_floor.specs.steps.inner.Reading.{fresh_link}
use Rattle.task_floor.proofs.linking.fresh_links.Given as goal

abbrev pub invariant-loop-row : goal.invariant-loop-row
invariant-loop-row l = l.links ≡ map fresh_link (take l.row-index l.rows)
