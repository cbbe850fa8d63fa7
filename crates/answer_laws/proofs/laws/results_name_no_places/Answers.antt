use Rattle.answer_laws.proofs.Results.{same_result}
use Rattle.answer_laws.proofs.laws.results_name_no_places.Goals as goal

pub returns : goal.returns
returns c = same_result
