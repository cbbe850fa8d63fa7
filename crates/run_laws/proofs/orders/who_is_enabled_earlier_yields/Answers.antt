use Rattle.run_laws.proofs.orders.Enabling.{earlier_yield}
use Rattle.run_laws.proofs.orders.who_is_enabled_earlier_yields.Goals as goal

pub returns : goal.returns
returns c = earlier_yield
