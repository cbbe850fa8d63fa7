use Rattle.seg_journal.proofs.MoveLists.{IsWritten}
use Rattle.seg_journal.proofs.text.push_moves.Given as goal

abbrev pub invariant-loop-entry : goal.invariant-loop-entry
invariant-loop-entry l = IsWritten l.entries l.initial.text l.text l.entry-index
