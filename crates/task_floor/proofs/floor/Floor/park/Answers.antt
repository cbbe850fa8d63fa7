use Rattle.task_floor.proofs.steps.LeavingTurns.{enabled_is}
use Rattle.task_floor.proofs.floor.Floor.park.Goals as goal

pub leave_with_phase-requires-clause-may : goal.leave_with_phase-requires-clause-may
leave_with_phase-requires-clause-may g c =
    let may = c.requires.may in
    (may.0, may.1, may.2.may, enabled_is c.args.slot may.0.row c.parked_phase-phase.result c.parked_phase-phase.ensures may.2.may.floor.is may.2.enabled)

pub returns-clause-left : goal.returns-clause-left
returns-clause-left g c turn others may =
    c.leave_with_phase.ensures.left turn others may.may (enabled_is c.args.slot turn.row c.parked_phase-phase.result c.parked_phase-phase.ensures may.may.floor.is may.enabled)
