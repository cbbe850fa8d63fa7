use Rattle.std.proofs.lemmas.Bool.Decides.{Decides-eqb}
use Rattle.std.proofs.lemmas.Slice.Eq.{strip_prefix_is}
use Rattle.seg_journal.proofs.Splits.{strips}
use Rattle.seg_journal.proofs.line.rest_after.Goals as goal

pub returns-clause-found : goal.returns-clause-found
returns-clause-found c = (strips _ _ _ (strip_prefix_is Decides-eqb _ _ _ c.strip_prefix.ensures.cases)).found

pub returns-clause-only : goal.returns-clause-only
returns-clause-only c = (strips _ _ _ (strip_prefix_is Decides-eqb _ _ _ c.strip_prefix.ensures.cases)).only
