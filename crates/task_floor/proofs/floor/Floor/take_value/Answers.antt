use Rattle.std.proofs.Common.{◌≡◌, sym, ap, subst, ◌∙◌, w32, to_z, of_z}
use Rattle.std.proofs.lemmas.Int.{to_z-of_z}
use Rattle.floor_laws.specs.declared.rule.view.Phase.{Phase}
use Rattle.floor_laws.specs.table.Layout.{phase_of_word, word_of_phase}
use Rattle.task_floor.specs.steps.Resuming.{KnowsValue}
use Rattle.floor_laws.specs.table.nodes.FloorSeats.{floor_seat}
use Rattle.floor_laws.proofs.table.Steps.{phase_again}
use Rattle.task_floor.proofs.Alone.{new_undone, taken_undone}
use Rattle.task_floor.proofs.Looking.{busy_more}
use Rattle.task_floor.proofs.Valuing.{busy_left, busy_not_had, gave_more_beside, live_looked, live_taken, may_give_looked, slots_looked, turn_for_nothing, value_known, value_not_had}
use Rattle.task_floor.proofs.floor.Floor.take_value.Goals as goal

pub status-phase-requires-clause-live : goal.status-phase-requires-clause-live
status-phase-requires-clause-live g c = live_taken g.N.Planted.nodes c.args.stand.now.me c.take_turn.new.stand.me c.args.task c.in-Ok.slot c.in-Ok.ensures.taken c.requires.live

pub give_turn-requires-clause-live : goal.give_turn-requires-clause-live
give_turn-requires-clause-live g c =
    live_looked g.N.Planted.nodes c.args.stand.now.me c.take_turn.new.stand.me c.args.task c.in-Ok.slot c.in-Ok.ensures.taken g.N.Named.lim c.status-phase.new.stand.me (word_of_phase c.status-phase.result)
    c.status-phase.ensures.found c.requires.live

pub give_turn-requires-clause-slots : goal.give_turn-requires-clause-slots
give_turn-requires-clause-slots g c =
    slots_looked g.N.Planted.nodes c.args.stand.now.me c.take_turn.new.stand.me c.args.task c.in-Ok.slot c.in-Ok.ensures.taken g.N.Named.lim c.status-phase.new.stand.me (word_of_phase c.status-phase.result)
    c.status-phase.ensures.found c.requires.task c.requires.slots

pub give_turn-requires-clause-may : goal.give_turn-requires-clause-may
give_turn-requires-clause-may g c =
    let a = c.args.stand.now.me in
    let took = c.in-Ok.ensures.taken in (
      took.floor.turn,
      a.1,
      may_give_looked g.N.Planted.nodes a c.take_turn.new.stand.me c.args.task c.in-Ok.slot took g.N.Named.lim c.status-phase.new.stand.me (word_of_phase c.status-phase.result) c.status-phase.ensures.found c.requires.closed c.requires.idle,
    )

pub returns-in-Done-clause-value : goal.returns-in-Done-clause-value
returns-in-Done-clause-value g c =
    let nodes = g.N.Planted.nodes in
    let lim = g.N.Named.lim in
    let a = c.args.stand.now.me in
    let mid = c.take_turn.new.stand.me in
    let after = c.status-phase.new.stand.me in
    let took = c.in-Ok.ensures.taken in
    let found = word_of_phase c.status-phase.result in
    let back = may_give_looked nodes a mid c.args.task c.in-Ok.slot took lim after found c.status-phase.ensures.found c.requires.closed c.requires.idle in
    let done = ap (λ (x : Phase). phase_of_word (word_of_phase x)) c.in-Done.is in
    let knows = value_known nodes a mid c.args.task c.in-Ok.slot took lim after found c.status-phase.ensures.found c.give_turn.new.stand.me (c.give_turn.ensures.gave took.floor.turn a.1 back) done in
    let value : to_z w32 (of_z w32 c.value_in-value.result) ≡ c.value_in-value.result = to_z-of_z w32 c.value_in-value.result (record { sfits = c.value_in-value.type_inv }) in
    subst (KnowsValue (floor_seat c.give_turn.new.stand.me) c.args.task) (sym (value ∙ c.value_in-value.ensures)) knows

pub returns-in-Done-clause-more : goal.returns-in-Done-clause-more
returns-in-Done-clause-more g c =
    let nodes = g.N.Planted.nodes in
    let lim = g.N.Named.lim in
    let a = c.args.stand.now.me in
    let mid = c.take_turn.new.stand.me in
    let after = c.status-phase.new.stand.me in
    let took = c.in-Ok.ensures.taken in
    let found = word_of_phase c.status-phase.result in
    let back = may_give_looked nodes a mid c.args.task c.in-Ok.slot took lim after found c.status-phase.ensures.found c.requires.closed c.requires.idle in
    gave_more_beside nodes a mid c.args.task c.in-Ok.slot took lim after found c.status-phase.ensures.found c.give_turn.new.stand.me (c.give_turn.ensures.gave took.floor.turn a.1 back)

pub returns-in_default : goal.returns-in_default
returns-in_default g c =
    let nodes = g.N.Planted.nodes in
    let lim = g.N.Named.lim in
    let a = c.args.stand.now.me in
    let mid = c.take_turn.new.stand.me in
    let after = c.status-phase.new.stand.me in
    let took = c.in-Ok.ensures.taken in
    let found = word_of_phase c.status-phase.result in
    let back = may_give_looked nodes a mid c.args.task c.in-Ok.slot took lim after found c.status-phase.ensures.found c.requires.closed c.requires.idle in
    record {
      value = tt;
      none = value_not_had nodes a mid c.args.task c.in-Ok.slot took lim after found c.status-phase.ensures.found c.give_turn.new.stand.me (c.give_turn.ensures.gave took.floor.turn a.1 back)
          (λ done. c.in_default.not-Done (sym (phase_again c.status-phase.result) ∙ done));
      left = turn_for_nothing nodes a mid c.args.task c.in-Ok.slot took lim after found c.status-phase.ensures.found c.give_turn.new.stand.me (c.give_turn.ensures.gave took.floor.turn a.1 back)
          (λ done. c.in_default.not-Done (sym (phase_again c.status-phase.result) ∙ done));
      alone = taken_undone nodes g.N.Named.prog lim a mid after c.args.task found c.in-Ok.slot took c.status-phase.ensures.found c.status-phase.ensures.alone
          (λ done. c.in_default.not-Done (sym (phase_again c.status-phase.result) ∙ done));
      more = gave_more_beside nodes a mid c.args.task c.in-Ok.slot took lim after found c.status-phase.ensures.found c.give_turn.new.stand.me (c.give_turn.ensures.gave took.floor.turn a.1 back);
      same = (
        c.give_turn.ensures.same.0 ∙ (c.status-phase.ensures.same.0 ∙ c.in-Ok.ensures.same.0),
        c.give_turn.ensures.same.1 ∙ (c.status-phase.ensures.same.1 ∙ c.in-Ok.ensures.same.1),
      );
    }

pub returns-in-Err-clause-none : goal.returns-in-Err-clause-none
returns-in-Err-clause-none g c = busy_not_had c.args.stand.now.me c.take_turn.new.stand.me c.args.task _ c.in-Err.ensures.busy

pub returns-in-Err-clause-left : goal.returns-in-Err-clause-left
returns-in-Err-clause-left g c = busy_left c.args.stand.now.me c.take_turn.new.stand.me c.args.task _ c.in-Err.ensures.busy

pub returns-in-Err-clause-more : goal.returns-in-Err-clause-more
returns-in-Err-clause-more g c = busy_more c.args.stand.now.me c.take_turn.new.stand.me c.args.task _ c.in-Err.ensures.busy

pub returns-in-Err-clause-alone : goal.returns-in-Err-clause-alone
returns-in-Err-clause-alone g c = new_undone g.N.Named.prog g.N.Named.lim c.args.stand.now.me.0.floor c.args.task c.in-Err.ensures.alone
