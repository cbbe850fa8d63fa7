use Rattle.held_span.proofs.OneHeld.{one_held}
use Rattle.held_span.proofs.laws.one_held_profile.Goals as goal

pub returns : goal.returns
returns c = one_held
