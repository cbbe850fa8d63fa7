use Rattle.summary_texts.proofs.Ordering.{path-itself, paths-compared, paths-follow}
use Rattle.summary_texts.proofs.laws.paths_have_one_order.Goals as goal

pub returns-clause-strict : goal.returns-clause-strict
returns-clause-strict c = path-itself

pub returns-clause-transitive : goal.returns-clause-transitive
returns-clause-transitive c = paths-follow

pub returns-clause-total : goal.returns-clause-total
returns-clause-total c = paths-compared
