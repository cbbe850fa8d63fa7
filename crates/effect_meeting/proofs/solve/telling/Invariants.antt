use Rattle.std.proofs.Common.{◌≡◌, ◌++◌, drop}
use Rattle.effect_meeting.specs.Solving.{telling, telling_after}
use Rattle.effect_meeting.proofs.solve.telling.Given as goal

-- those so far, and those of what is left that say something new after them, are those of all
abbrev pub invariant-loop-equality : goal.invariant-loop-equality
invariant-loop-equality l = l.kept ++ telling_after l.kept (drop l.equality-index l.equalities) ≡ telling l.equalities
