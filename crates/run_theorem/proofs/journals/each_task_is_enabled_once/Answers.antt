use Rattle.std.proofs.Common.{refl}
use Rattle.machine_state.specs.Runs.{IsReached, state_after}
use Rattle.machine_state.proofs.counts.AllJournals.{journal_counts}
use Rattle.machine_state.proofs.standing.ReachedStands.{reached_stands}
use Rattle.run_theorem.proofs.Enablings.{tasks_at_most_once, tasks_once}
use Rattle.run_theorem.proofs.journals.each_task_is_enabled_once.Goals as goal

pub returns-clause-at_most_once : goal.returns-clause-at_most_once
returns-clause-at_most_once c p lim journal well legal =
    tasks_at_most_once journal (state_after p lim journal) (journal_counts p lim well journal legal)

pub returns-clause-once : goal.returns-clause-once
returns-clause-once c p lim journal well legal all =
    let st = state_after p lim journal in
    let reached : IsReached p lim st = record { journal = journal; legal = legal; same = refl } in
    tasks_once journal st (journal_counts p lim well journal legal) p lim (reached_stands p lim st well reached) all
