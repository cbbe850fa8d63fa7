use Rattle.std.proofs.Common.{sym, ap, ◌∙◌}
use Rattle.floor_laws.specs.declared.rule.view.HeldTurn.{HeldTurn}
use Rattle.floor_laws.specs.table.Tells.{Seat}
use Rattle.task_floor.proofs.steps.LeavingTurns.{may_store}
use Rattle.floor_laws.specs.table.nodes.FloorSeats.{floor_seat, tasks_out}
use Rattle.task_floor.proofs.LeavingTasks.{has_left_task, may_give_stored}
use Rattle.task_floor.proofs.floor.Floor.leave_with_phase.Goals as goal

pub set_phase-requires-clause-may : goal.set_phase-requires-clause-may
set_phase-requires-clause-may g c =
    let may = c.requires.may in
    (may.0, may_store (floor_seat c.args.stand.now.me) c.args.task c.args.slot c.args.phase may.0 (tasks_out may.1) may.2.floor may.3)

pub give_turn-requires-clause-live : goal.give_turn-requires-clause-live
give_turn-requires-clause-live g c =
    let may = c.requires.may in
    let stored = c.set_phase.ensures.stored may.0 (may_store (floor_seat c.args.stand.now.me) c.args.task c.args.slot c.args.phase may.0 (tasks_out may.1) may.2.floor may.3) in
    λ spent. c.requires.live (sym (ap (λ (m : Seat). m.0.kind) stored) ∙ spent)

pub give_turn-requires-clause-slots : goal.give_turn-requires-clause-slots
give_turn-requires-clause-slots g c = c.set_phase.ensures.stays.slots

pub give_turn-requires-clause-may : goal.give_turn-requires-clause-may
give_turn-requires-clause-may g c =
    let may = c.requires.may in
    let me = c.args.stand.now.me in
    let mid = c.set_phase.new.stand.me in
    let now : HeldTurn = record may.0 { phase = c.args.phase } in
    let stored = c.set_phase.ensures.stored may.0 (may_store (floor_seat me) c.args.task c.args.slot c.args.phase may.0 (tasks_out may.1) may.2.floor may.3) in
    (now, may.1, may_give_stored g.N.Planted.nodes g.N.Named.lim me mid c.args.task c.args.slot c.args.phase may.0 may.1 may.2 may.3 c.requires.slots c.set_phase.ensures.stays stored)

pub returns-clause-left : goal.returns-clause-left
returns-clause-left g c turn others may is =
    let me = c.args.stand.now.me in
    let mid = c.set_phase.new.stand.me in
    let after = c.give_turn.new.stand.me in
    let now : HeldTurn = record turn { phase = c.args.phase } in
    let stored = c.set_phase.ensures.stored turn (may_store (floor_seat me) c.args.task c.args.slot c.args.phase turn (tasks_out others) may.floor is) in
    has_left_task g.N.Planted.nodes g.N.Named.lim me mid c.args.task c.args.slot c.args.phase turn others may is c.requires.slots c.set_phase.ensures.stays stored after
    (c.give_turn.ensures.gave now others (may_give_stored g.N.Planted.nodes g.N.Named.lim me mid c.args.task c.args.slot c.args.phase turn others may is c.requires.slots c.set_phase.ensures.stays stored))
