use Rattle.summary_comparing.proofs.Walking.{lead-need}
use Rattle.summary_comparing.proofs.chain_laws.chains_lead_to_needs.Goals as goal

pub returns : goal.returns
returns c p m need places leads = lead-need p m need places leads
