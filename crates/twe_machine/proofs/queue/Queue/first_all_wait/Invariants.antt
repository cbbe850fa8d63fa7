-- Those looked at so far wait for the task, or are done.
use Rattle.std.proofs.Common.{◌-◌}
use Rattle.twe_machine.specs.Queues.{AllWait}
use Rattle.twe_machine.proofs.queue.Queue.first_all_wait.Given as goal

abbrev pub invariant-leading : goal.invariant-leading
invariant-leading l = AllWait l.st.links l.self.entries 0 l.at l.t

abbrev pub decreases-leading : goal.decreases-leading
decreases-leading l = l.count - l.at
