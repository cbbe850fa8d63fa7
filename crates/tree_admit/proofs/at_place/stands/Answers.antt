-- What is known not to stand is not found, and what was looked for was found exactly if it stands.
use Rattle.tree_admit.specs.Errands.{record_of}
use Rattle.tree_admit.proofs.Putting.{was_found, was_missed}
use Rattle.tree_admit.proofs.at_place.stands.Goals as goal

pub returns-then-unplaced-clause-missing : goal.returns-then-unplaced-clause-missing
returns-then-unplaced-clause-missing c = λ none. c.requires c.if-unplaced.true

pub returns-clause-there : goal.returns-clause-there
returns-clause-there c = was_found (record_of c.args.errand c.args.effect.now) c.args.content.now c.has.result c.has.ensures

pub returns-clause-missing : goal.returns-clause-missing
returns-clause-missing c = was_missed (record_of c.args.errand c.args.effect.now) c.args.content.now c.has.result c.has.ensures
