use Rattle.std.proofs.Common.{◌≡◌, drop}
use Rattle.effect_check.specs.inner.Marks.{marks_of_all, no_marks}
use Rattle.effect_check.proofs.marks.marks_of_all.Given as goal

-- the marks so far with those of what is left are those of all
abbrev pub invariant-loop-spawn : goal.invariant-loop-spawn
invariant-loop-spawn l = marks_of_all l.only_writes l.marks (drop l.spawn-index l.spawns) ≡ marks_of_all l.only_writes no_marks l.spawns
