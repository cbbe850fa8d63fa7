use Rattle.isolation_laws.proofs.journals.Journals.{children_apart, reached_within}
use Rattle.isolation_laws.proofs.laws.children_stay_within_and_apart.Goals as goal

pub returns : goal.returns
returns c = record { within = reached_within; apart = children_apart }
