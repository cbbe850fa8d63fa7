use Rattle.std.proofs.Common.{◌∙◌}
use Rattle.floor_laws.proofs.table.nodes.Contents.{from_the_end, past_the_end}
use Rattle.floor_laws.proofs.table.nodes.content.record_at.Goals as goal

pub returns-then-at-records : goal.returns-then-at-records
returns-then-at-records c = c.record_from_start.ensures ∙ from_the_end c.args.records.now c.args.at c.if-at-records.true

pub returns-else-at-records : goal.returns-else-at-records
returns-else-at-records c = past_the_end c.args.records.now c.args.at c.if-at-records.false
