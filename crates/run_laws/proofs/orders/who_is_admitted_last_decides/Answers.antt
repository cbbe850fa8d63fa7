use Rattle.run_laws.proofs.orders.Deciding.{admitted_waits, decided_leads, decided_waits, decided_yields}
use Rattle.run_laws.proofs.orders.who_is_admitted_last_decides.Goals as goal

pub returns : goal.returns
returns c = record { admitted = admitted_waits; waits = decided_waits; leads = decided_leads; yields = decided_yields }
