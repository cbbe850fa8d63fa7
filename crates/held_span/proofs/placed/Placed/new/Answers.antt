use Rattle.std.proofs.Common.{◌∙◌}
use Rattle.held_span.proofs.Placing.{placed-none}
use Rattle.held_span.proofs.placed.Placed.new.Goals as goal

pub returns-clause-placed : goal.returns-clause-placed
returns-clause-placed c = placed-none _ c.in_ok-shape.ensures.tree (c.in_ok-at_nodes.ensures ∙ c.nodes.ensures.count) c.new.ensures c.new-2.ensures
