use Rattle.std.proofs.Common.{◌≡◌, ◌++◌, ℕ, List, take}
use Rattle.task_floor.specs.steps.inner.Laying.{AreWordsOf, in_lines}
use Rattle.task_floor.proofs.laying.add_cells.Given as goal

abbrev pub invariant-loop-value : goal.invariant-loop-value
invariant-loop-value l = (more : List ℕ) × AreWordsOf (take l.value-index l.cells) more × (l.words ≡ l.initial.words ++ in_lines more)
