use Rattle.layout_laws.proofs.Stopping.{only_memory}
use Rattle.layout_laws.proofs.laws.only_memory_stops_a_cut.Goals as goal

pub returns : goal.returns
returns c = only_memory
