use Rattle.task_floor.proofs.floor.Floor.finish.Goals as goal

pub leave_with_phase-requires-clause-may : goal.leave_with_phase-requires-clause-may
leave_with_phase-requires-clause-may g c =
    let may = c.requires.may in
    (may.0, may.1, may.2.may, may.2.phase_is)

pub returns-clause-left : goal.returns-clause-left
returns-clause-left g c turn others may = c.leave_with_phase.ensures.left turn others may.may may.phase_is
