use Rattle.twe_draw.specs.Bars.{row_shown}
use Rattle.twe_draw.proofs.Flat.{flat_more}
use Rattle.twe_draw.proofs.bars.push_rows.Goals as goal

-- the row of one task more was written
pub loop-row-preserved : goal.loop-row-preserved
loop-row-preserved c =
    flat_more (row_shown c.args.p.now c.args.rows.now) c.args.tasks.now c.loop-row.row-index c.row-item.result c.args.text.now
    c.loop-row.text c.push_row_shown.new.text c.loop-row-test.true c.row-item.is c.loop-row.invariant
    c.in_ok-push_row_shown.ensures
