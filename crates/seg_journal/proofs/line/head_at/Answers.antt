use Rattle.std.proofs.Common.{◌∙◌}
use Rattle.seg_journal.proofs.Heads.{head_line-append}
use Rattle.seg_journal.proofs.line.head_at.Goals as goal

pub returns-in_err-rest-clause-only : goal.returns-in_err-rest-clause-only
returns-in_err-rest-clause-only c limits rest within e = absurd (c.in_err-rest.ensures.only _ (e ∙ head_line-append limits rest))
