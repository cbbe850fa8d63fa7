-- The last of the links are those of the added task.
use Rattle.wait_graph.proofs.AddingLemmas.{WaitsForNobody-added, unawaited-added, DescendsFrom-added_same, YieldsTo-added_from, YieldsTo-added_to}
use Rattle.wait_graph.proofs.laws.an_added_task.Goals as goal

pub returns-clause-waits : goal.returns-clause-waits
returns-clause-waits c = WaitsForNobody-added

pub returns-clause-awaited : goal.returns-clause-awaited
returns-clause-awaited c = unawaited-added

pub returns-clause-descends : goal.returns-clause-descends
returns-clause-descends c = DescendsFrom-added_same

pub returns-clause-yields : goal.returns-clause-yields
returns-clause-yields c = YieldsTo-added_from

pub returns-clause-yielded : goal.returns-clause-yielded
returns-clause-yielded c = YieldsTo-added_to
