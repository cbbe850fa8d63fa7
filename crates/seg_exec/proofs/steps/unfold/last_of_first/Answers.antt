use Rattle.std.proofs.Common.{sym, ◌∙◌}
use Rattle.seg_meaning.proofs.Remains.{last_is}
use Rattle.seg_exec.proofs.steps.unfold.last_of_first.Goals as goal

pub returns-else-count-eq0 : goal.returns-else-count-eq0
returns-else-count-eq0 c = c.statement_at.ensures ∙ sym (last_is c.args.count c.args.stmts.now c.if-count-eq0.false)
