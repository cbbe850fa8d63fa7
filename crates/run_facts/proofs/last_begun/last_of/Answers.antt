use Rattle.std.proofs.Common.{sym, ◌∙◌}
use Rattle.seg_meaning.proofs.Remains.{last_is}
use Rattle.run_facts.proofs.last_begun.last_of.Goals as goal

pub returns : goal.returns
returns c = c.indexed.ensures ∙ sym (last_is c.args.count c.args.stmts.now c.if-count-eq0.false)
