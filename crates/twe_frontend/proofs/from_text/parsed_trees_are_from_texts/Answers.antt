use Rattle.twe_frontend.proofs.FromText.{is_from_text}
use Rattle.twe_frontend.proofs.from_text.parsed_trees_are_from_texts.Goals as goal

pub returns : goal.returns
returns c = is_from_text
