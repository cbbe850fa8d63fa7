use Rattle.text_layout.proofs.Again.{cut_again}
use Rattle.text_layout.proofs.SameKinds.{has_kinds, same_kinds}
use Rattle.text_layout.proofs.laws.pieces_stay.Goals as goal

pub returns-clause-again : goal.returns-clause-again
returns-clause-again c = cut_again

pub returns-clause-kinds : goal.returns-clause-kinds
returns-clause-kinds c = has_kinds

pub returns-clause-same_kinds : goal.returns-clause-same_kinds
returns-clause-same_kinds c = same_kinds
