use Rattle.std.proofs.Common.{◌≡◌, Some, [], ap, rules, sym, ◌∙◌}
use Rattle.twe_program.specs.Statement.{Return, Statement}
use Rattle.twe_program.specs.inner.StatementView.{statement_of}
use Rattle.seg_exec.specs.declared.steps.continuation.Goal.TheVariants.{Make}
use Rattle.seg_meaning.specs.Access.{ways_of}
use Rattle.seg_exec.specs.inner.steps.Continuations.{Choose, Evaluate, Execute, Gather, GiveCell, GiveVar, PrintValue, Unwind, to_do}
use Rattle.seg_exec.specs.inner.steps.Reached.{standing}
use Rattle.seg_exec.specs.inner.steps.Steps.{executed}
use Rattle.seg_exec.specs.inner.steps.Views.{config_of}
use Rattle.seg_exec.specs.inner.strides.Strides.{doing}
use Rattle.seg_exec.specs.inner.strides.Moving.{course}
use Rattle.seg_exec.proofs.strides.Moving.{moves_carried, moves_silent}
use Rattle.seg_exec.proofs.strides.Performing.{carries_step, may_silent}
use Rattle.seg_meaning.proofs.Results.{if_ok_map}
use Rattle.seg_exec.proofs.strides.perform.execute.Goals as goal

pub give_var-requires : goal.give_var-requires
give_var-requires g c = may_silent c.args.p.now (ways_of g.C.Cells.known g.C.Cells.may_read g.C.Cells.may_write g.C.Cells.rule) (Execute c.args.stmt.now) (config_of c.args.machine.now) (to_do (Evaluate c.in-Let.value) (to_do (GiveVar c.in-Let.var) (config_of c.args.machine.now))) c.args.cells.now c.args.prints.now (ap (λ (s : Statement). executed s (config_of c.args.machine.now)) (sym c.stmt.view_is ∙ ap (λ kind. statement_of c.stmt.inside.point kind) c.in-Let.is)) c.requires

pub returns-in-Let : goal.returns-in-Let
returns-in-Let g c =
    if_ok_map c.give_var.result (λ onward rest. moves_silent c.args.p.now (ways_of g.C.Cells.known g.C.Cells.may_read g.C.Cells.may_write g.C.Cells.rule) (Execute c.args.stmt.now) (config_of c.args.machine.now) (to_do (Evaluate c.in-Let.value) (to_do (GiveVar c.in-Let.var) (config_of c.args.machine.now))) c.args.cells.now c.args.prints.now (course onward c.give_var.new.machine)
    (standing c.give_var.new.machine c.give_var.new.cells c.give_var.new.prints) (ap (λ (s : Statement). executed s (config_of c.args.machine.now)) (sym c.stmt.view_is ∙ ap (λ kind. statement_of c.stmt.inside.point kind) c.in-Let.is)) rest) c.give_var.ensures

pub give_var-requires-in-Set : goal.give_var-requires-in-Set
give_var-requires-in-Set g c = may_silent c.args.p.now (ways_of g.C.Cells.known g.C.Cells.may_read g.C.Cells.may_write g.C.Cells.rule) (Execute c.args.stmt.now) (config_of c.args.machine.now) (to_do (Evaluate c.in-Set.value) (to_do (GiveVar c.in-Set.var) (config_of c.args.machine.now))) c.args.cells.now c.args.prints.now (ap (λ (s : Statement). executed s (config_of c.args.machine.now)) (sym c.stmt.view_is ∙ ap (λ kind. statement_of c.stmt.inside.point kind) c.in-Set.is)) c.requires

pub returns-in-Set : goal.returns-in-Set
returns-in-Set g c =
    if_ok_map c.give_var-in-Set.result (λ onward rest. moves_silent c.args.p.now (ways_of g.C.Cells.known g.C.Cells.may_read g.C.Cells.may_write g.C.Cells.rule) (Execute c.args.stmt.now) (config_of c.args.machine.now) (to_do (Evaluate c.in-Set.value) (to_do (GiveVar c.in-Set.var) (config_of c.args.machine.now))) c.args.cells.now c.args.prints.now (course onward c.give_var-in-Set.new.machine)
    (standing c.give_var-in-Set.new.machine c.give_var-in-Set.new.cells c.give_var-in-Set.new.prints) (ap (λ (s : Statement). executed s (config_of c.args.machine.now)) (sym c.stmt.view_is ∙ ap (λ kind. statement_of c.stmt.inside.point kind) c.in-Set.is)) rest) c.give_var-in-Set.ensures

pub evaluate_then-requires : goal.evaluate_then-requires
evaluate_then-requires g c = may_silent c.args.p.now (ways_of g.C.Cells.known g.C.Cells.may_read g.C.Cells.may_write g.C.Cells.rule) (Execute c.args.stmt.now) (config_of c.args.machine.now) (to_do (Evaluate c.in-SetCell.value) (to_do (GiveCell c.in-SetCell.cell) (config_of c.args.machine.now))) c.args.cells.now c.args.prints.now (ap (λ (s : Statement). executed s (config_of c.args.machine.now)) (sym c.stmt.view_is ∙ ap (λ kind. statement_of c.stmt.inside.point kind) c.in-SetCell.is)) c.requires

pub returns-in-SetCell : goal.returns-in-SetCell
returns-in-SetCell g c =
    if_ok_map c.evaluate_then.result (λ onward rest. moves_silent c.args.p.now (ways_of g.C.Cells.known g.C.Cells.may_read g.C.Cells.may_write g.C.Cells.rule) (Execute c.args.stmt.now) (config_of c.args.machine.now) (to_do (Evaluate c.in-SetCell.value) (to_do (GiveCell c.in-SetCell.cell) (config_of c.args.machine.now))) c.args.cells.now c.args.prints.now (course onward c.evaluate_then.new.machine)
    (standing c.evaluate_then.new.machine c.evaluate_then.new.cells c.evaluate_then.new.prints) (ap (λ (s : Statement). executed s (config_of c.args.machine.now)) (sym c.stmt.view_is ∙ ap (λ kind. statement_of c.stmt.inside.point kind) c.in-SetCell.is)) rest) c.evaluate_then.ensures

pub evaluate_then-requires-in-Print : goal.evaluate_then-requires-in-Print
evaluate_then-requires-in-Print g c = may_silent c.args.p.now (ways_of g.C.Cells.known g.C.Cells.may_read g.C.Cells.may_write g.C.Cells.rule) (Execute c.args.stmt.now) (config_of c.args.machine.now) (to_do (Evaluate c.in-Print.value) (to_do (PrintValue c.in-Print.place) (config_of c.args.machine.now))) c.args.cells.now c.args.prints.now (ap (λ (s : Statement). executed s (config_of c.args.machine.now)) (sym c.stmt.view_is ∙ ap (λ kind. statement_of c.stmt.inside.point kind) c.in-Print.is)) c.requires

pub returns-in-Print : goal.returns-in-Print
returns-in-Print g c =
    if_ok_map c.evaluate_then-in-Print.result (λ onward rest. moves_silent c.args.p.now (ways_of g.C.Cells.known g.C.Cells.may_read g.C.Cells.may_write g.C.Cells.rule) (Execute c.args.stmt.now) (config_of c.args.machine.now) (to_do (Evaluate c.in-Print.value) (to_do (PrintValue c.in-Print.place) (config_of c.args.machine.now))) c.args.cells.now c.args.prints.now (course onward c.evaluate_then-in-Print.new.machine)
    (standing c.evaluate_then-in-Print.new.machine c.evaluate_then-in-Print.new.cells c.evaluate_then-in-Print.new.prints) (ap (λ (s : Statement). executed s (config_of c.args.machine.now)) (sym c.stmt.view_is ∙ ap (λ kind. statement_of c.stmt.inside.point kind) c.in-Print.is)) rest) c.evaluate_then-in-Print.ensures

pub choose_first-requires : goal.choose_first-requires
choose_first-requires g c =
    may_silent c.args.p.now (ways_of g.C.Cells.known g.C.Cells.may_read g.C.Cells.may_write g.C.Cells.rule) (Execute c.args.stmt.now) (config_of c.args.machine.now) (to_do (Choose 0 c.in-If.arms) (config_of c.args.machine.now)) c.args.cells.now c.args.prints.now
    (ap (λ (s : Statement). executed s (config_of c.args.machine.now)) (sym c.stmt.view_is ∙ ap (λ kind. statement_of c.stmt.inside.point kind) c.in-If.is)) c.requires

pub returns-in-If : goal.returns-in-If
returns-in-If g c =
    if_ok_map c.choose_first.result (λ onward rest. moves_silent c.args.p.now (ways_of g.C.Cells.known g.C.Cells.may_read g.C.Cells.may_write g.C.Cells.rule) (Execute c.args.stmt.now) (config_of c.args.machine.now) (to_do (Choose 0 c.in-If.arms) (config_of c.args.machine.now)) c.args.cells.now c.args.prints.now (course onward c.choose_first.new.machine)
    (standing c.choose_first.new.machine c.choose_first.new.cells c.choose_first.new.prints)
    (ap (λ (s : Statement). executed s (config_of c.args.machine.now)) (sym c.stmt.view_is ∙ ap (λ kind. statement_of c.stmt.inside.point kind) c.in-If.is)) rest) c.choose_first.ensures

pub return_value-requires : goal.return_value-requires
return_value-requires g c =
    may_silent c.args.p.now (ways_of g.C.Cells.known g.C.Cells.may_read g.C.Cells.may_write g.C.Cells.rule) (Execute c.args.stmt.now) (config_of c.args.machine.now) (to_do (Evaluate c.in-Return-Some.value) (to_do Unwind (config_of c.args.machine.now))) c.args.cells.now c.args.prints.now
    (ap (λ (s : Statement). executed s (config_of c.args.machine.now)) (let shape : c.args.stmt.now ≡ Return c.stmt.inside.point (Some c.in-Return-Some.value) = search rules in shape)) c.requires

pub returns-in-Return-Some : goal.returns-in-Return-Some
returns-in-Return-Some g c =
    if_ok_map c.return_value.result (λ onward rest. moves_silent c.args.p.now (ways_of g.C.Cells.known g.C.Cells.may_read g.C.Cells.may_write g.C.Cells.rule) (Execute c.args.stmt.now) (config_of c.args.machine.now) (to_do (Evaluate c.in-Return-Some.value) (to_do Unwind (config_of c.args.machine.now))) c.args.cells.now c.args.prints.now (course onward c.return_value.new.machine)
    (standing c.return_value.new.machine c.return_value.new.cells c.return_value.new.prints)
    (ap (λ (s : Statement). executed s (config_of c.args.machine.now)) (let shape : c.args.stmt.now ≡ Return c.stmt.inside.point (Some c.in-Return-Some.value) = search rules in shape)) rest) c.return_value.ensures

pub make-requires : goal.make-requires
make-requires g c =
    may_silent c.args.p.now (ways_of g.C.Cells.known g.C.Cells.may_read g.C.Cells.may_write g.C.Cells.rule) (Execute c.args.stmt.now) (config_of c.args.machine.now)
    (to_do (Gather [] c.in-Make.args (Make c.in-Make.future c.in-Make.task c.in-Make.spawned c.in-Make.place)) (config_of c.args.machine.now)) c.args.cells.now c.args.prints.now
    (ap (λ (s : Statement). executed s (config_of c.args.machine.now)) (sym c.stmt.view_is ∙ ap (λ kind. statement_of c.stmt.inside.point kind) c.in-Make.is)) c.requires

pub returns-in-Make : goal.returns-in-Make
returns-in-Make g c =
    if_ok_map c.make.result (λ onward rest. moves_silent c.args.p.now (ways_of g.C.Cells.known g.C.Cells.may_read g.C.Cells.may_write g.C.Cells.rule) (Execute c.args.stmt.now) (config_of c.args.machine.now)
    (to_do (Gather [] c.in-Make.args (Make c.in-Make.future c.in-Make.task c.in-Make.spawned c.in-Make.place)) (config_of c.args.machine.now)) c.args.cells.now c.args.prints.now (course onward c.make.new.machine)
    (standing c.make.new.machine c.make.new.cells c.make.new.prints)
    (ap (λ (s : Statement). executed s (config_of c.args.machine.now)) (sym c.stmt.view_is ∙ ap (λ kind. statement_of c.stmt.inside.point kind) c.in-Make.is)) rest) c.make.ensures

pub returns-in_ok-request-in_default : goal.returns-in_ok-request-in_default
returns-in_ok-request-in_default g c =
    let ways = ways_of g.C.Cells.known g.C.Cells.may_read g.C.Cells.may_write g.C.Cells.rule in
    let old = config_of c.args.machine.now in
    let before = doing (Execute c.args.stmt.now) (standing c.args.machine.now c.args.cells.now c.args.prints.now) in
    let after = standing c.serve.new.machine c.serve.new.cells c.serve.new.prints in
    if_ok_map c.serve.result (λ onward served. moves_carried c.args.p.now ways before after (course onward c.serve.new.machine) served.1
    (carries_step c.args.p.now ways (Execute c.args.stmt.now) old (config_of c.execute.new.self) c.args.cells.now c.args.prints.now
    c.in_ok-request-in_default.request (course onward c.serve.new.machine).ending after c.in_ok-request-in_default.ensures served.0)) c.serve.ensures
