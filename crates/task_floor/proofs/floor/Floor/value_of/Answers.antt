use Rattle.std.proofs.Common.{sym, ◌∙◌}
use Rattle.floor_laws.specs.table.Layout.{word_of_phase}
use Rattle.floor_laws.proofs.table.Steps.{phase_again}
use Rattle.floor_laws.specs.table.nodes.FloorSeats.{floor_seat}
use Rattle.task_floor.proofs.Alone.{found_undone, none_then, undone_since}
use Rattle.task_floor.proofs.Looking.{has_looked, looked_more}
use Rattle.task_floor.proofs.Valuing.{look_closed, look_idle, look_left, look_live, look_not_had, look_slots, looked_rest, looked_then_more, none_had_since, none_left_looked}
use Rattle.task_floor.proofs.floor.Floor.value_of.Goals as goal

pub take_value-requires-clause-live : goal.take_value-requires-clause-live
take_value-requires-clause-live g c = look_live g.N.Named.lim c.args.stand.now.me c.status.new.stand.me c.args.task (word_of_phase c.status.result) c.status.ensures.found c.requires.live

pub take_value-requires-clause-slots : goal.take_value-requires-clause-slots
take_value-requires-clause-slots g c = look_slots g.N.Named.lim c.args.stand.now.me c.status.new.stand.me c.args.task (word_of_phase c.status.result) c.status.ensures.found c.requires.slots

pub take_value-requires-clause-closed : goal.take_value-requires-clause-closed
take_value-requires-clause-closed g c = look_closed g.N.Named.lim c.args.stand.now.me c.status.new.stand.me c.args.task (word_of_phase c.status.result) c.status.ensures.found c.requires.closed

pub take_value-requires-clause-idle : goal.take_value-requires-clause-idle
take_value-requires-clause-idle g c = look_idle g.N.Named.lim c.args.stand.now.me c.status.new.stand.me c.args.task (word_of_phase c.status.result) c.status.ensures.found c.requires.idle

pub returns-in-Done-clause-more : goal.returns-in-Done-clause-more
returns-in-Done-clause-more g c =
    looked_then_more g.N.Named.lim c.args.stand.now.me c.status.new.stand.me c.take_value.new.stand.me c.args.task (word_of_phase c.status.result) c.status.ensures.found c.take_value.ensures.more

pub returns-in_default-clause-more : goal.returns-in_default-clause-more
returns-in_default-clause-more g c = looked_more g.N.Named.lim c.args.stand.now.me c.status.new.stand.me c.args.task c.args.task (word_of_phase c.status.result) c.status.ensures.found

pub returns-in-Done-clause-none : goal.returns-in-Done-clause-none
returns-in-Done-clause-none g c =
    none_had_since c.args.stand.now.me.0.looks c.status.new.stand.me.0.looks c.take_value.new.stand.me.0.looks c.args.task c.take_value.result
    (has_looked g.N.Named.lim c.args.stand.now.me c.status.new.stand.me c.args.task (word_of_phase c.status.result) c.status.ensures.found).looks c.take_value.ensures.none

pub returns-in_default-clause-none : goal.returns-in_default-clause-none
returns-in_default-clause-none g c =
    look_not_had g.N.Named.lim c.args.stand.now.me c.status.new.stand.me c.args.task (word_of_phase c.status.result) c.status.ensures.found
    (λ done. c.in_default.not-Done (sym (phase_again c.status.result) ∙ done))

pub returns-in-Done-clause-alone : goal.returns-in-Done-clause-alone
returns-in-Done-clause-alone g c =
    none_then c.take_value.result
    (undone_since g.N.Named.prog g.N.Named.lim (floor_seat c.args.stand.now.me) (floor_seat c.status.new.stand.me) c.args.task
    (looked_rest g.N.Named.lim c.args.stand.now.me c.status.new.stand.me c.args.task (word_of_phase c.status.result) c.status.ensures.found))
    c.take_value.ensures.alone

pub returns-in_default-clause-alone : goal.returns-in_default-clause-alone
returns-in_default-clause-alone g c =
    found_undone g.N.Named.prog g.N.Named.lim c.args.stand.now.me c.args.task (word_of_phase c.status.result) c.status.ensures.alone (λ done. c.in_default.not-Done (sym (phase_again c.status.result) ∙ done))

pub returns-in-Done-clause-left : goal.returns-in-Done-clause-left
returns-in-Done-clause-left g c =
    none_left_looked g.N.Named.lim c.args.stand.now.me c.status.new.stand.me c.take_value.new.stand.me.0 c.args.task c.args.task (word_of_phase c.status.result) c.take_value.result
    c.status.ensures.found c.take_value.ensures.left

pub returns-in_default-clause-left : goal.returns-in_default-clause-left
returns-in_default-clause-left g c = look_left g.N.Named.lim c.args.stand.now.me c.status.new.stand.me c.args.task (word_of_phase c.status.result) c.status.ensures.found
