use Rattle.text_layout.proofs.Settling.{layout_settled, same_bytes}
use Rattle.text_layout.proofs.laws.layout_stays.Goals as goal

pub returns-clause-stays : goal.returns-clause-stays
returns-clause-stays c = layout_settled

pub returns-clause-bytes : goal.returns-clause-bytes
returns-clause-bytes c = same_bytes
