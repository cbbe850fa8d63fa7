use Rattle.std.proofs.Common.{◌≡◌, drop}
use Rattle.floor_laws.specs.rule.Shown.{first_fault_in}
use Rattle.task_floor.proofs.reading.first_fault_in.Given as goal

abbrev pub invariant-loop-entry : goal.invariant-loop-entry
invariant-loop-entry l = first_fault_in (drop l.entry-index l.journal) ≡ first_fault_in l.journal
