use Rattle.std.proofs.Common.{◌≡◌, ◌++◌, ◌∙◌, sym, ap}
use Rattle.twe_base.specs.declared.place.Place.{Place}
use Rattle.name_check.specs.Ends.{close_of}
use Rattle.name_check.proofs.Bodies.{close_is}
use Rattle.run_notes.specs.BodyVariables.{locals_of}
use Rattle.run_notes.proofs.MoreLocals.{one_statement_more}
use Rattle.run_notes.proofs.body_variables.+declaring.Goals as goal

-- one statement more was looked at
pub add_locals_in-loop-stmt-preserved : goal.add_locals_in-loop-stmt-preserved
add_locals_in-loop-stmt-preserved t c =
    let block = c.args.block.now in
    let close : close_of block ≡ c.block.inside.close = sym (ap close_of c.block.view_is) ∙ close_is c.block.inside.stmts.items c.block.inside.close in
    one_statement_more c.args.place (close_of block) c.as_slice-stmt-items.result.now c.loop-stmt.stmt-index c.stmt-item.result c.loop-stmt.variables c.add_locals.new.variables _
    c.loop-stmt-test.true (sym c.stmt-item.is)
    (c.in_ok-add_locals.ensures ∙ ap (λ (p : Place). c.loop-stmt.variables ++ locals_of c.args.place p c.stmt-item.result) (sym close))
    c.loop-stmt.invariant
