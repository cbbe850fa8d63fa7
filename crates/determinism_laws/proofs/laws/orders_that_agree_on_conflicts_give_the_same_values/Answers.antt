use Rattle.determinism_laws.proofs.SameValues.{same_cells, same_prints, same_values, same_writers}
use Rattle.determinism_laws.proofs.laws.orders_that_agree_on_conflicts_give_the_same_values.Goals as goal

pub returns : goal.returns
returns c = record { writers = same_writers; values = same_values; cells = same_cells; prints = same_prints }
