use Rattle.floor_laws.proofs.table.Ends.{closed_ends}
use Rattle.floor_laws.proofs.table.laws.a_closed_table_shows_the_state.Goals as goal

pub returns : goal.returns
returns c = closed_ends
