use Rattle.seg_journal.proofs.Decimal.{decimal_utf8}
use Rattle.seg_journal.proofs.number.number_of.Goals as goal

pub returns-in_err-text_of-clause-only : goal.returns-in_err-text_of-clause-only
returns-in_err-text_of-clause-only c n small e = absurd (c.in_err-text_of.ensures.none (decimal_utf8 _ n small e))
