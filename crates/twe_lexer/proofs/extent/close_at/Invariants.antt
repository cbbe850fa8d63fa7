use Rattle.twe_lexer.proofs.Comments.{NoCloseBelow}
use Rattle.twe_lexer.proofs.extent.close_at.Given as goal

abbrev pub invariant-loop-at : goal.invariant-loop-at
invariant-loop-at l = NoCloseBelow l.body l.at
