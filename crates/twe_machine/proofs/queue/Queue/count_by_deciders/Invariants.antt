use Rattle.twe_machine.proofs.queue.Queue.count_by_deciders.Given as goal

abbrev pub decreases-deciding : goal.decreases-deciding
decreases-deciding l = l.count
