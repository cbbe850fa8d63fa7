use Rattle.layout_laws.proofs.OneCut.{one_layout}
use Rattle.layout_laws.proofs.laws.one_layout.Goals as goal

pub returns : goal.returns
returns c = one_layout
