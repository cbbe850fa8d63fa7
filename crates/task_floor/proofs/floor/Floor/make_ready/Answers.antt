use Rattle.std.proofs.Common.{◌∙◌, inl, inr, sym}
use Rattle.floor_laws.specs.table.Layout.{word_of_phase}
use Rattle.task_floor.proofs.steps.InHand.{may_run}
use Rattle.floor_laws.specs.table.nodes.FloorSeats.{floor_seat}
use Rattle.task_floor.proofs.Alone.{undone_since}
use Rattle.task_floor.proofs.GoingOn.{looked_above, looked_enough, looked_in_hand, looked_moves, looked_phase, same_enough, then_moves, was_in_hand}
use Rattle.task_floor.proofs.Looking.{has_looked}
use Rattle.task_floor.proofs.Valuing.{left_looked, look_live, look_slots, look_worker, looked_rest, not_had_since}
use Rattle.task_floor.proofs.floor.Floor.make_ready.Goals as goal

pub resume-requires-clause-live : goal.resume-requires-clause-live
resume-requires-clause-live g c = look_live g.N.Named.lim c.args.stand.now.me c.status.new.stand.me c.args.task (word_of_phase c.status.result) c.status.ensures.found c.requires.live

pub resume-requires-clause-slots : goal.resume-requires-clause-slots
resume-requires-clause-slots g c = look_slots g.N.Named.lim c.args.stand.now.me c.status.new.stand.me c.args.task (word_of_phase c.status.result) c.status.ensures.found c.requires.slots

pub resume-requires-clause-worker : goal.resume-requires-clause-worker
resume-requires-clause-worker g c = c.requires.worker ∙ sym (look_worker g.N.Named.lim c.args.stand.now.me c.status.new.stand.me c.args.task (word_of_phase c.status.result) c.status.ensures.found)

pub resume-requires-clause-on : goal.resume-requires-clause-on
resume-requires-clause-on g c = looked_above g.N.Planted.nodes g.N.Named.lim c.args.stand.now.me c.status.new.stand.me c.args.task c.status.result c.status.ensures.found c.in-Waits.on c.in-Waits.is

pub resume-requires-clause-in_hand : goal.resume-requires-clause-in_hand
resume-requires-clause-in_hand g c =
    let hand = c.requires.in_hand in
    let nodes = g.N.Planted.nodes in
    let lim = g.N.Named.lim in
    let a = c.args.stand.now.me in
    let b = c.status.new.stand.me in
    let phase = c.status.result in
    let looks = c.status.ensures.found in
    (hand.0, looked_in_hand nodes lim a b c.args.task phase looks hand.0 c.args.frame.now hand.1, looked_enough nodes lim a b c.args.task phase looks hand.0.row hand.2)

pub resume-requires-clause-waits : goal.resume-requires-clause-waits
resume-requires-clause-waits g c turn later =
    let hand = c.requires.in_hand in
    let nodes = g.N.Planted.nodes in
    let lim = g.N.Named.lim in
    let a = c.args.stand.now.me in
    let b = c.status.new.stand.me in
    let phase = c.status.result in
    let looks = c.status.ensures.found in
    looked_phase nodes lim a b c.args.task phase looks turn c.args.frame.now (was_in_hand nodes lim a b c.args.task phase looks hand.0 turn c.args.frame.now hand.1 later) ∙ c.in-Waits.is

pub returns-in-Running-clause-found : goal.returns-in-Running-clause-found
returns-in-Running-clause-found g c turn hand =
    let nodes = g.N.Planted.nodes in
    let lim = g.N.Named.lim in
    let a = c.args.stand.now.me in
    let b = c.status.new.stand.me in
    let phase = c.status.result in
    let looks = c.status.ensures.found in
    let frame = c.args.frame.now in
    may_run (floor_seat b) c.args.task turn frame (looked_in_hand nodes lim a b c.args.task phase looks turn frame hand) (looked_phase nodes lim a b c.args.task phase looks turn frame hand ∙ c.in-Running.is)

pub returns-in-Waits-clause-found : goal.returns-in-Waits-clause-found
returns-in-Waits-clause-found g c turn hand =
    c.resume.ensures.found turn (looked_in_hand g.N.Planted.nodes g.N.Named.lim c.args.stand.now.me c.status.new.stand.me c.args.task c.status.result c.status.ensures.found turn c.args.frame.now hand)

pub returns-in-Waits-clause-enough : goal.returns-in-Waits-clause-enough
returns-in-Waits-clause-enough g c turn hand =
    c.resume.ensures.enough turn (looked_in_hand g.N.Planted.nodes g.N.Named.lim c.args.stand.now.me c.status.new.stand.me c.args.task c.status.result c.status.ensures.found turn c.args.frame.now hand)

pub returns-in-Waits-clause-moves : goal.returns-in-Waits-clause-moves
returns-in-Waits-clause-moves g c =
    then_moves g.N.Planted.nodes g.N.Named.lim c.args.stand.now.me c.status.new.stand.me c.args.task c.status.result c.status.ensures.found c.resume.new.stand.me c.resume.ensures.moves

pub returns-in-Made-clause-found : goal.returns-in-Made-clause-found
returns-in-Made-clause-found g c turn hand = (
  looked_phase g.N.Planted.nodes g.N.Named.lim c.args.stand.now.me c.status.new.stand.me c.args.task c.status.result c.status.ensures.found turn c.args.frame.now hand ∙ c.in-Made.is,
  looked_in_hand g.N.Planted.nodes g.N.Named.lim c.args.stand.now.me c.status.new.stand.me c.args.task c.status.result c.status.ensures.found turn c.args.frame.now hand,
)

pub returns-in-Done-clause-found : goal.returns-in-Done-clause-found
returns-in-Done-clause-found g c turn hand = (
  inl (looked_phase g.N.Planted.nodes g.N.Named.lim c.args.stand.now.me c.status.new.stand.me c.args.task c.status.result c.status.ensures.found turn c.args.frame.now hand ∙ c.in-Done.is),
  looked_in_hand g.N.Planted.nodes g.N.Named.lim c.args.stand.now.me c.status.new.stand.me c.args.task c.status.result c.status.ensures.found turn c.args.frame.now hand,
)

pub returns-in-Faulted-clause-found : goal.returns-in-Faulted-clause-found
returns-in-Faulted-clause-found g c turn hand = (
  inr (looked_phase g.N.Planted.nodes g.N.Named.lim c.args.stand.now.me c.status.new.stand.me c.args.task c.status.result c.status.ensures.found turn c.args.frame.now hand ∙ c.in-Faulted.is),
  looked_in_hand g.N.Planted.nodes g.N.Named.lim c.args.stand.now.me c.status.new.stand.me c.args.task c.status.result c.status.ensures.found turn c.args.frame.now hand,
)

pub returns-in-Running-clause-enough : goal.returns-in-Running-clause-enough
returns-in-Running-clause-enough g c turn hand =
    let first = c.requires.in_hand in
    looked_enough g.N.Planted.nodes g.N.Named.lim c.args.stand.now.me c.status.new.stand.me c.args.task c.status.result c.status.ensures.found turn.row
    (same_enough g.N.Planted.nodes c.args.stand.now.me c.args.task first.0 turn c.args.frame.now first.1 hand first.2)

pub returns-in-Running-clause-moves : goal.returns-in-Running-clause-moves
returns-in-Running-clause-moves g c = looked_moves g.N.Planted.nodes g.N.Named.lim c.args.stand.now.me c.status.new.stand.me c.args.task c.status.result c.status.ensures.found

pub returns-in-Made-clause-enough : goal.returns-in-Made-clause-enough
returns-in-Made-clause-enough g c turn hand =
    let first = c.requires.in_hand in
    looked_enough g.N.Planted.nodes g.N.Named.lim c.args.stand.now.me c.status.new.stand.me c.args.task c.status.result c.status.ensures.found turn.row
    (same_enough g.N.Planted.nodes c.args.stand.now.me c.args.task first.0 turn c.args.frame.now first.1 hand first.2)

pub returns-in-Made-clause-moves : goal.returns-in-Made-clause-moves
returns-in-Made-clause-moves g c = looked_moves g.N.Planted.nodes g.N.Named.lim c.args.stand.now.me c.status.new.stand.me c.args.task c.status.result c.status.ensures.found

pub returns-in-Done-clause-enough : goal.returns-in-Done-clause-enough
returns-in-Done-clause-enough g c turn hand =
    let first = c.requires.in_hand in
    looked_enough g.N.Planted.nodes g.N.Named.lim c.args.stand.now.me c.status.new.stand.me c.args.task c.status.result c.status.ensures.found turn.row
    (same_enough g.N.Planted.nodes c.args.stand.now.me c.args.task first.0 turn c.args.frame.now first.1 hand first.2)

pub returns-in-Done-clause-moves : goal.returns-in-Done-clause-moves
returns-in-Done-clause-moves g c = looked_moves g.N.Planted.nodes g.N.Named.lim c.args.stand.now.me c.status.new.stand.me c.args.task c.status.result c.status.ensures.found

pub returns-in-Faulted-clause-enough : goal.returns-in-Faulted-clause-enough
returns-in-Faulted-clause-enough g c turn hand =
    let first = c.requires.in_hand in
    looked_enough g.N.Planted.nodes g.N.Named.lim c.args.stand.now.me c.status.new.stand.me c.args.task c.status.result c.status.ensures.found turn.row
    (same_enough g.N.Planted.nodes c.args.stand.now.me c.args.task first.0 turn c.args.frame.now first.1 hand first.2)

pub returns-in-Faulted-clause-moves : goal.returns-in-Faulted-clause-moves
returns-in-Faulted-clause-moves g c = looked_moves g.N.Planted.nodes g.N.Named.lim c.args.stand.now.me c.status.new.stand.me c.args.task c.status.result c.status.ensures.found

pub returns-in-Waits-clause-waits : goal.returns-in-Waits-clause-waits
returns-in-Waits-clause-waits g c on is =
    not_had_since c.args.stand.now.me.0.looks c.status.new.stand.me.0.looks c.resume.new.stand.me.0.looks on
    (has_looked g.N.Named.lim c.args.stand.now.me c.status.new.stand.me c.args.task (word_of_phase c.status.result) c.status.ensures.found).looks (c.resume.ensures.waits on is)

pub returns-in-Waits-clause-alone : goal.returns-in-Waits-clause-alone
returns-in-Waits-clause-alone g c on is =
    undone_since g.N.Named.prog g.N.Named.lim (floor_seat c.args.stand.now.me) (floor_seat c.status.new.stand.me) on
    (looked_rest g.N.Named.lim c.args.stand.now.me c.status.new.stand.me c.args.task (word_of_phase c.status.result) c.status.ensures.found) (c.resume.ensures.alone on is)

pub returns-in-Waits-clause-above : goal.returns-in-Waits-clause-above
returns-in-Waits-clause-above g c on is = c.resume.ensures.above on is

pub returns-in-Waits-clause-left : goal.returns-in-Waits-clause-left
returns-in-Waits-clause-left g c on is =
    left_looked g.N.Named.lim c.args.stand.now.me c.status.new.stand.me c.resume.new.stand.me.0 on c.args.task (word_of_phase c.status.result) c.status.ensures.found (c.resume.ensures.left on is)
