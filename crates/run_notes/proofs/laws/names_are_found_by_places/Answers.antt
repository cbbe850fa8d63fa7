use Rattle.run_notes.proofs.FoundNames.{names_found}
use Rattle.run_notes.proofs.laws.names_are_found_by_places.Goals as goal

pub returns : goal.returns
returns c = names_found
