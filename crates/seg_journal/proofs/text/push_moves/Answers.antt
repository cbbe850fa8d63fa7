use Rattle.seg_journal.proofs.MoveLists.{written_more}
use Rattle.seg_journal.proofs.text.push_moves.Goals as goal

pub loop-entry-preserved : goal.loop-entry-preserved
loop-entry-preserved c =
    written_more _ _ _ _ _ _ c.loop-entry-test.true c.loop-entry.invariant c.push_move.ensures.task c.in_ok-push_move.ensures.written
