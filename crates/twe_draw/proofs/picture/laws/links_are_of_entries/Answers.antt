use Rattle.twe_draw.proofs.picture.InTime.{giver_is_one, previous_is_one}
use Rattle.twe_draw.proofs.picture.laws.links_are_of_entries.Goals as goal

pub returns-clause-previous : goal.returns-clause-previous
returns-clause-previous c = previous_is_one

pub returns-clause-giver : goal.returns-clause-giver
returns-clause-giver c = giver_is_one
