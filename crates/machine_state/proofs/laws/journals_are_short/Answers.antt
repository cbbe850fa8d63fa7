use Rattle.machine_state.proofs.counts.AllJournals.{journal_length}
use Rattle.machine_state.proofs.laws.journals_are_short.Goals as goal

pub returns : goal.returns
returns c p lim journal well within legal = journal_length p lim well journal within.tasks_least legal
