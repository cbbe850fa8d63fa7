use Rattle.twe_annotate.proofs.Written.{all-done, none-named}
use Rattle.twe_annotate.proofs.laws.no_method_is_named.Goals as goal

pub returns-clause-unnamed : goal.returns-clause-unnamed
returns-clause-unnamed c all items can = none-named all items can

pub returns-clause-done : goal.returns-clause-done
returns-clause-done c all = all-done all
