use Rattle.twe_machine.proofs.queue.Queue.count_by_deciders.Goals as goal

pub count_by_decider_at-requires-clause-decides : goal.count_by_decider_at-requires-clause-decides
count_by_decider_at-requires-clause-decides c =
    let h = c.in-Some.ensures in
    (c.requires h.0 c.in-Some.at h.1 h.3 h.4).1
