use Rattle.floor_laws.specs.rule.nodes.Starts.{AreOfEnabled}
use Rattle.task_floor.proofs.Gathered.{first_tasks}
use Rattle.task_floor.proofs.recording.records_of.Given as goal

-- the records are those of the enabled ones among the first tasks
abbrev pub invariant-loop-t : goal.invariant-loop-t
invariant-loop-t l = AreOfEnabled l.shape (first_tasks l.st l.t) l.records
