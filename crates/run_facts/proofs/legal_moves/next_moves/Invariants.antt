use Rattle.run_facts.proofs.Found.{AreMovesBelow}
use Rattle.run_facts.proofs.legal_moves.next_moves.Given as goal

-- the tasks before this one were looked at
abbrev pub invariant-loop-task : goal.invariant-loop-task
invariant-loop-task l = AreMovesBelow l.st l.most l.task l.moves
