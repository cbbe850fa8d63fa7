use Rattle.seg_journal.proofs.OneSpelling.{one_journal}
use Rattle.seg_journal.proofs.laws.one_spelling.Goals as goal

pub returns : goal.returns
returns c text head other moves others a b = one_journal head other moves others text a b
