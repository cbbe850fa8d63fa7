-- What paths stand for, they stand for under each valuation.
use Rattle.tree_admit.proofs.ways.ApartLemmas.{apart_effects}
use Rattle.tree_admit.proofs.ways.laws.the_test_of_effects_is_safe.Goals as goal

pub returns : goal.returns
returns c = apart_effects
