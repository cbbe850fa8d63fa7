use Rattle.machine_state.proofs.links.ChainsStay.{chain_stays, chain_stays_on}
use Rattle.machine_state.proofs.standing.ReachedStands.{reached_stands}
use Rattle.machine_state.proofs.laws.chains_of_waits_stay.Goals as goal

pub returns-clause-a_move : goal.returns-clause-a_move
returns-clause-a_move c p lim st mv s u well reached may = chain_stays p lim well st mv.kind mv.task s u may (reached_stands p lim st well reached)

pub returns-clause-a_journal : goal.returns-clause-a_journal
returns-clause-a_journal c p lim st entries s u well reached legal = chain_stays_on p lim well st entries s u legal (reached_stands p lim st well reached)
