use Rattle.run_laws.proofs.orders.Numbers.{earlier_is_lower, lower_yields, yields_up}
use Rattle.run_laws.proofs.orders.who_is_made_earlier_yields.Goals as goal

pub returns : goal.returns
returns c = record { up = yields_up; lower = lower_yields; earlier = earlier_is_lower }
