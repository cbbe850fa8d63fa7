use Rattle.twe_frontend.proofs.NeverNeither.{never_neither}
use Rattle.twe_frontend.proofs.OneAnswer.{not_refused}
use Rattle.twe_frontend.proofs.laws.refused_or_accepted.Goals as goal

pub returns-clause-never_both : goal.returns-clause-never_both
returns-clause-never_both c text p refusal accepted refused = not_refused c.one_tree.ensures text p refusal accepted refused

pub returns-clause-never_neither : goal.returns-clause-never_neither
returns-clause-never_neither c = never_neither
