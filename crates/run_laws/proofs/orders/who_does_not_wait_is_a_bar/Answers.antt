use Rattle.machine_state.proofs.standing.ReachedStands.{reached_stands}
use Rattle.run_laws.proofs.orders.Deciding.{made_bar, made_yields}
use Rattle.run_laws.proofs.orders.who_does_not_wait_is_a_bar.Goals as goal

pub returns : goal.returns
returns c = record {
  yields = λ p well lim st reached s t made. made_yields p lim st (reached_stands p lim st well reached) s t made;
  bar = λ p well lim st reached s t made. made_bar p lim st (reached_stands p lim st well reached) s t made;
}
