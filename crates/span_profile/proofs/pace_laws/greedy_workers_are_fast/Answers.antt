use Rattle.machine_state.specs.Runs.{counted}
use Rattle.span_profile.specs.LeadsTo.{LeadsTo}
use Rattle.span_profile.specs.Strands.{strands, weight_of}
use Rattle.span_profile.proofs.Speed.{greedy}
use Rattle.span_profile.proofs.pace_laws.greedy_workers_are_fast.Goals as goal

pub returns : goal.returns
returns c = λ p lim moves work span workers chain start profile is.
    greedy LeadsTo weight_of (strands p lim (counted profile.journal)) work span chain profile.heaviest workers start is
