use Rattle.std.proofs.Common.{◌≡◌, ◌++◌, drop}
use Rattle.task_floor.specs.steps.inner.Laying.{made_words}
use Rattle.task_floor.proofs.laying.add_made.Given as goal

abbrev pub invariant-loop-row : goal.invariant-loop-row
invariant-loop-row l = l.words ++ made_words (drop l.row-index l.tasks) ≡ l.initial.words ++ made_words l.tasks
