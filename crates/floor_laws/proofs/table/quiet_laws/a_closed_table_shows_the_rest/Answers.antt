use Rattle.floor_laws.proofs.table.Rests.{closed_quiet}
use Rattle.floor_laws.proofs.table.quiet_laws.a_closed_table_shows_the_rest.Goals as goal

pub returns : goal.returns
returns c = closed_quiet
