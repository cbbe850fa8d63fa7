use Rattle.std.proofs.Common.{Option, sym, ap, ◌∙◌}
use Rattle.machine_state.specs.declared.state.TaskRow.{TaskRow}
use Rattle.task_floor.specs.Committing.{left_to_place, with_made}
use Rattle.task_floor.proofs.Bringing.{brings_none, brings_one}
use Rattle.task_floor.proofs.floor.Floor.bring.Goals as goal

pub bring_made-requires-clause-may : goal.bring_made-requires-clause-may
bring_made-requires-clause-may g c =
    let may = c.requires.may in
    let one = brings_one g.N.Named.lim c.args.stand.now.me c.args.number c.args.made c.in-Some.slot may.0 may.1 c.in-Some.is may.2 in
    (may.0, one.now, one.may)

pub returns-in-None-clause-brought : goal.returns-in-None-clause-brought
returns-in-None-clause-brought g c drawn row may = brings_none g.N.Named.lim c.args.stand.now.me c.args.number c.args.made drawn row c.in-None.is may

pub returns-in-Some-clause-brought : goal.returns-in-Some-clause-brought
returns-in-Some-clause-brought g c drawn row may =
    let one = brings_one g.N.Named.lim c.args.stand.now.me c.args.number c.args.made c.in-Some.slot drawn row c.in-Some.is may in
    let brought = c.bring_made.ensures.brought drawn one.now one.may in (
      brought.0 ∙ ap (λ (r : Option TaskRow). with_made drawn c.args.number r) (sym one.is),
      brought.1 ∙ ap left_to_place (sym one.is),
    )
