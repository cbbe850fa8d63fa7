use Rattle.twe_names.proofs.WellFormed.{well_formed}
use Rattle.twe_names.proofs.laws.meaning_is_well_formed.Goals as goal

pub returns : goal.returns
returns c = well_formed
