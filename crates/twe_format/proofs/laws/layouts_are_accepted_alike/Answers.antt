use Rattle.twe_format.proofs.AcceptedAlike.{laid_accepted, text_accepted}
use Rattle.twe_format.proofs.laws.layouts_are_accepted_alike.Goals as goal

pub returns-clause-laid : goal.returns-clause-laid
returns-clause-laid c = laid_accepted c.places_do_not_matter.ensures

pub returns-clause-text : goal.returns-clause-text
returns-clause-text c = text_accepted c.one_tree.ensures c.places_do_not_matter.ensures
