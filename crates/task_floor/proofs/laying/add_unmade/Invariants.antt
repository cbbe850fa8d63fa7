use Rattle.std.proofs.Common.{◌≡◌, ◌-◌, ◌++◌}
use Rattle.task_floor.specs.steps.inner.Laying.{unmade_words}
use Rattle.task_floor.proofs.laying.add_unmade.Given as goal

abbrev pub invariant-loop-i : goal.invariant-loop-i
invariant-loop-i l = l.words ++ unmade_words (l.count - l.i) ≡ l.initial.words ++ unmade_words l.count
