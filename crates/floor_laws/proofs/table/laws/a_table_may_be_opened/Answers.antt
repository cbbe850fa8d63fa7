use Rattle.floor_laws.proofs.table.Starts.{starts_keep}
use Rattle.floor_laws.proofs.table.laws.a_table_may_be_opened.Goals as goal

pub returns : goal.returns
returns c = starts_keep
