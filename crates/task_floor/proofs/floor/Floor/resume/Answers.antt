use Rattle.std.proofs.Common.{◌<◌, ℕ, subst}
use Rattle.task_floor.proofs.steps.InHand.{may_store_running}
use Rattle.floor_laws.specs.table.nodes.FloorSeats.{floor_seat}
use Rattle.task_floor.proofs.Alone.{one_wait, waits_undone}
use Rattle.task_floor.proofs.GoingOn.{enough_now, moves_now, same_enough, still_in_hand}
use Rattle.task_floor.proofs.Valuing.{left_for, more_live, more_slots, waits_for}
use Rattle.task_floor.proofs.floor.Floor.resume.Goals as goal

pub set_phase-requires-clause-live : goal.set_phase-requires-clause-live
set_phase-requires-clause-live g c = more_live g.N.Named.lim c.args.stand.now.me c.value_of.new.stand.me c.args.on c.in-Some.ensures.more c.requires.live

pub set_phase-requires-clause-slots : goal.set_phase-requires-clause-slots
set_phase-requires-clause-slots g c = more_slots g.N.Named.lim c.args.stand.now.me c.value_of.new.stand.me c.args.on c.in-Some.ensures.more c.requires.slots

pub set_phase-requires-clause-may : goal.set_phase-requires-clause-may
set_phase-requires-clause-may g c =
    let hand = c.requires.in_hand in
    let a = c.args.stand.now.me in
    let b = c.value_of.new.stand.me in
    let waits = c.requires.waits hand.0 hand.1 in
    let still = still_in_hand g.N.Planted.nodes a b c.args.task c.args.on hand.0 c.args.frame.now c.requires.on.1 hand.1 waits c.in-Some.ensures.more in
    (hand.0, may_store_running (floor_seat b) (floor_seat b) c.args.task c.args.on _ hand.0 c.args.frame.now still waits c.in-Some.ensures.value)

pub returns-clause-moves : goal.returns-clause-moves
returns-clause-moves g c =
    let nodes = g.N.Planted.nodes in
    let lim = g.N.Named.lim in
    let hand = c.requires.in_hand in
    let a = c.args.stand.now.me in
    let b = c.value_of.new.stand.me in
    let after = c.set_phase.new.stand.me in
    let t = c.args.task in
    let more = c.in-Some.ensures.more in
    let known = c.in-Some.ensures.value in
    let waits = c.requires.waits hand.0 hand.1 in
    let still = still_in_hand nodes a b t c.args.on hand.0 c.args.frame.now c.requires.on.1 hand.1 waits more in
    let may = may_store_running (floor_seat b) (floor_seat b) t c.args.on _ hand.0 c.args.frame.now still waits known in
    moves_now nodes a b t c.args.on hand.0 c.args.frame.now c.requires.on.1 hand.1 waits more lim after _ known (more_slots lim a b c.args.on more c.requires.slots) c.set_phase.ensures.stays (c.set_phase.ensures.stored hand.0 may)

pub returns-clause-enough : goal.returns-clause-enough
returns-clause-enough g c turn hand =
    let nodes = g.N.Planted.nodes in
    let lim = g.N.Named.lim in
    let first = c.requires.in_hand in
    let a = c.args.stand.now.me in
    let b = c.value_of.new.stand.me in
    let after = c.set_phase.new.stand.me in
    let t = c.args.task in
    let more = c.in-Some.ensures.more in
    let known = c.in-Some.ensures.value in
    let waits = c.requires.waits turn hand in
    let still = still_in_hand nodes a b t c.args.on turn c.args.frame.now c.requires.on.1 hand waits more in
    let may = may_store_running (floor_seat b) (floor_seat b) t c.args.on _ turn c.args.frame.now still waits known in
    enough_now nodes a b t c.args.on turn c.args.frame.now c.requires.on.1 hand waits more lim after _ known (more_slots lim a b c.args.on more c.requires.slots) c.set_phase.ensures.stays (c.set_phase.ensures.stored turn may)
    (same_enough nodes a t first.0 turn c.args.frame.now first.1 hand first.2)

pub returns-in-None-clause-waits : goal.returns-in-None-clause-waits
returns-in-None-clause-waits g c on is = waits_for c.args.stand.now.me.0.looks c.value_of.new.stand.me.0.looks c.args.on on is c.in-None.ensures.none

pub returns-in-None-clause-alone : goal.returns-in-None-clause-alone
returns-in-None-clause-alone g c on is = waits_undone g.N.Named.prog g.N.Named.lim c.args.stand.now.me.0.floor c.args.on on is c.in-None.ensures.alone

pub returns-in-None-clause-above : goal.returns-in-None-clause-above
returns-in-None-clause-above g c on is = subst (λ (u : ℕ). c.args.task < u) (one_wait c.args.on on is) c.requires.on.1

pub returns-in-None-clause-left : goal.returns-in-None-clause-left
returns-in-None-clause-left g c on is = left_for c.args.stand.now.me.0 c.value_of.new.stand.me.0 c.args.on on is c.in-None.ensures.left
