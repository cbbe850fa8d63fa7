use Rattle.std.proofs.Common.{sym, ◌∙◌}
use Rattle.floor_laws.specs.rule.Steps.{first_turn}
use Rattle.task_floor.proofs.Bringing.{below_made, given_made, kept_made, may_give_new, none_to_place, slots_made, some_to_place}
use Rattle.task_floor.proofs.floor.Floor.bring_made.Goals as goal

pub give_first-requires-clause-slots : goal.give_first-requires-clause-slots
give_first-requires-clause-slots g c =
    let may = c.requires.may in
    slots_made g.N.Planted.nodes g.N.Named.lim c.args.stand.now.me c.args.number c.args.slot may.0 may.1 may.2

pub give_first-requires-clause-task : goal.give_first-requires-clause-task
give_first-requires-clause-task g c =
    let may = c.requires.may in
    below_made g.N.Planted.nodes g.N.Named.lim c.args.stand.now.me c.args.number c.args.slot may.0 may.1 may.2

pub give_first-requires-clause-may : goal.give_first-requires-clause-may
give_first-requires-clause-may g c =
    let may = c.requires.may in
    (first_turn may.1, may.0.1, may_give_new g.N.Planted.nodes g.N.Named.lim c.args.stand.now.me c.args.number c.args.slot may.0 may.1 may.2 (sym c.spawner.ensures ∙ c.in-None.is))

pub returns-in-None-clause-brought : goal.returns-in-None-clause-brought
returns-in-None-clause-brought g c drawn row may =
    let nodes = g.N.Planted.nodes in
    let lim = g.N.Named.lim in
    let me = c.args.stand.now.me in
    let new = may_give_new nodes lim me c.args.number c.args.slot drawn row may (sym c.spawner.ensures ∙ c.in-None.is) in (
      given_made nodes lim me c.args.number c.args.slot drawn row may (sym c.spawner.ensures ∙ c.in-None.is) c.give_first.new.stand.me (c.give_first.ensures.left (first_turn row) drawn.1 new),
      none_to_place nodes lim me c.args.number c.args.slot drawn row may (sym c.spawner.ensures ∙ c.in-None.is),
    )

pub returns-in-Some-clause-brought : goal.returns-in-Some-clause-brought
returns-in-Some-clause-brought g c drawn row may =
    let nodes = g.N.Planted.nodes in
    let lim = g.N.Named.lim in
    let me = c.args.stand.now.me in (
      kept_made nodes lim me c.args.number c.args.slot drawn row may _ (sym c.spawner.ensures ∙ c.in-Some.is),
      some_to_place nodes lim me c.args.number c.args.slot drawn row may _ (sym c.spawner.ensures ∙ c.in-Some.is),
    )
