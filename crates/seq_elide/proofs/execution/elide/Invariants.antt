use Rattle.seq_elide.proofs.Turning.{size_of_all}
use Rattle.seq_elide.proofs.Whole.{HasCome}
use Rattle.seq_elide.proofs.execution.elide.Given as goal

abbrev pub invariant-turns : goal.invariant-turns
invariant-turns l = HasCome l.p l.lim l.task l.args l.cells l.callers l.frame l.progress

-- what is left of the execution
abbrev pub decreases-turns : goal.decreases-turns
decreases-turns l = size_of_all l.lim l.callers l.frame l.progress
