use Rattle.std.proofs.Common.{◌≡◌, ◌++◌, drop}
use Rattle.task_floor.specs.steps.Waking.{numbered_from}
use Rattle.task_floor.proofs.numbering.numbered.Given as goal

-- the entries that are left get the numbers that follow
abbrev pub invariant-loop-i : goal.invariant-loop-i
invariant-loop-i l = l.log ++ numbered_from l.i (drop l.i l.journal) ≡ numbered_from 0 l.journal
