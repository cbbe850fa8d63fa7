use Rattle.machine_state.proofs.standing.ReachedStands.{reached_stands}
use Rattle.run_laws.proofs.orders.Yielding.{yields_stays}
use Rattle.run_laws.proofs.orders.yielding_stays.Goals as goal

pub returns : goal.returns
returns c p well lim st reached entries legal = yields_stays p lim well st entries legal (reached_stands p lim st well reached)
