use Rattle.machine_state.proofs.links.LinksAgree.{reached_linked}
use Rattle.machine_state.proofs.laws.links_agree.Goals as goal

pub returns : goal.returns
returns c p st reached = (reached_linked p reached.0 st reached.1).links
