use Rattle.twe_format.proofs.SameLines.{told_apart}
use Rattle.twe_format.proofs.laws.lines_tell_texts_apart.Goals as goal

pub returns : goal.returns
returns c = told_apart
