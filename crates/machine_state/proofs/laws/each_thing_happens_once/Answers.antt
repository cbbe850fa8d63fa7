use Rattle.machine_state.specs.Runs.{state_after}
use Rattle.machine_state.proofs.counts.AllJournals.{journal_counts}
use Rattle.machine_state.proofs.counts.Once.{at_most_once, first_never_made, never_admitted, once}
use Rattle.machine_state.proofs.laws.each_thing_happens_once.Goals as goal

pub returns-clause-at_most_once : goal.returns-clause-at_most_once
returns-clause-at_most_once c p lim journal well legal = at_most_once journal (state_after p lim journal) (journal_counts p lim well journal legal)

pub returns-clause-once : goal.returns-clause-once
returns-clause-once c p lim journal well legal all = once journal (state_after p lim journal) (journal_counts p lim well journal legal) all

pub returns-clause-spawned : goal.returns-clause-spawned
returns-clause-spawned c p lim journal well legal = never_admitted journal (state_after p lim journal) (journal_counts p lim well journal legal)

pub returns-clause-first : goal.returns-clause-first
returns-clause-first c p lim journal well legal = first_never_made journal (state_after p lim journal) (journal_counts p lim well journal legal)
