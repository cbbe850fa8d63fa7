use Rattle.std.proofs.Common.{ap}
use Rattle.machine_state.specs.declared.state.State.{State}
use Rattle.seg_journal.specs.declared.journal.End.{End}
use Rattle.place_laws.proofs.Moves.{legal_alike, moves_alike, starts_alike}
use Rattle.place_laws.proofs.Outcomes.{outcomes_alike}
use Rattle.place_laws.proofs.laws.moves_do_not_see_places.Goals as goal

pub returns : goal.returns
returns c = record {
  start = starts_alike;
  legal = legal_alike;
  ended = λ p q lim st other mv same states. ap (λ (r : State × End). r.1) (moves_alike p q lim st other mv same states);
  moved = λ p q lim st other mv same states. ap (λ (r : State × End). r.0) (moves_alike p q lim st other mv same states);
  outcome = outcomes_alike;
}
