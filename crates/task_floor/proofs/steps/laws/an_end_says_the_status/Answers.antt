use Rattle.task_floor.proofs.steps.CommittedEntries.{status_is}
use Rattle.task_floor.proofs.steps.laws.an_end_says_the_status.Goals as goal

pub returns : goal.returns
returns c lim asked row frame stop enabled = status_is lim asked row frame stop enabled
