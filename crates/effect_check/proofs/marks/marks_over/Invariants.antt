use Rattle.std.proofs.Common.{◌≡◌, drop}
use Rattle.effect_check.specs.inner.Marks.{marks_over}
use Rattle.effect_check.proofs.marks.marks_over.Given as goal

-- the marks so far with those of what is left are those of all
abbrev pub invariant-loop-effect : goal.invariant-loop-effect
invariant-loop-effect l = marks_over l.only_writes l.marks (drop l.effect-index l.effect-items) ≡ marks_over l.only_writes l.fn.marks l.effects.effects
