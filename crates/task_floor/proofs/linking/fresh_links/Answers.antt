use Rattle.std.proofs.Common.{arith, ap, ◌∙◌, length}
use Rattle.wait_graph.specs.declared.tasks.Link.{Link}
use Rattle.task_floor.proofs.steps.Readings.{fresh_count, link_there}
use Rattle.task_floor.proofs.linking.fresh_links.Goals as goal

pub add-requires-clause-parent_there : goal.add-requires-clause-parent_there
add-requires-clause-parent_there c q is =
    let below = c.loop-row-test.true in
    let count = ap length c.loop-row.invariant ∙ fresh_count c.args.rows.now c.loop-row.row-index below in
    let link = link_there c.args.rows.now c.loop-row.row-index c.row-item.result below c.row-item.is in
    let down = c.requires.parent_down c.loop-row.row-index q (ap (λ (l : Link). l.parent) link ∙ is) in
    omega (arith, down, count)
