use Rattle.floor_laws.proofs.table.Entries.{draw_allowed}
use Rattle.floor_laws.proofs.table.laws.an_entry_may_be_drawn.Goals as goal

pub returns : goal.returns
returns c = draw_allowed
