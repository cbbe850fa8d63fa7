use Rattle.twe_draw.proofs.picture.InTime.{one_bar_each, weighs}
use Rattle.twe_draw.proofs.picture.laws.each_entry_has_one_bar.Goals as goal

pub returns-clause-shows : goal.returns-clause-shows
returns-clause-shows c = one_bar_each

pub returns-clause-weighs : goal.returns-clause-weighs
returns-clause-weighs c = weighs
