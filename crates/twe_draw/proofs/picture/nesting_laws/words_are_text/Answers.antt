use Rattle.twe_draw.proofs.picture.Nest.{escaped_is_text}
use Rattle.twe_draw.proofs.picture.nesting_laws.words_are_text.Goals as goal

pub returns : goal.returns
returns c = escaped_is_text
