use Rattle.std.proofs.Common.{◌≡◌, ap, rules, sym, ◌∙◌}
use Rattle.twe_program.specs.Statement.{SetArray, Statement}
use Rattle.twe_program.specs.inner.StatementView.{statement_of}
use Rattle.seg_exec.specs.declared.strides.assign.Target.TheVariants.{Var, Cell}
use Rattle.seg_meaning.specs.Access.{ways_of}
use Rattle.seg_exec.specs.inner.strides.Assignments.{to_element, to_target}
use Rattle.seg_exec.specs.inner.steps.Continuations.{Config}
use Rattle.seg_exec.specs.inner.steps.Steps.{executed, is_return}
use Rattle.seg_exec.proofs.strides.Assigning.{does_inside, may_inside, stays_so}
use Rattle.seg_exec.proofs.strides.assign.assign.Goals as goal

pub set-requires : goal.set-requires
set-requires g c =
    may_inside c.args.p.now (ways_of g.C.Cells.known g.C.Cells.may_read g.C.Cells.may_write g.C.Cells.rule) c.args.stmt.now (to_target c.in-Let.value (Var c.in-Let.var)) c.args.vars.now.active c.args.cells.now
    (λ (config : Config). ap (λ (s : Statement). executed s config) (sym c.stmt.view_is ∙ ap (λ kind. statement_of c.stmt.inside.point kind) c.in-Let.is)) c.requires

pub returns-in-Let-clause-does : goal.returns-in-Let-clause-does
returns-in-Let-clause-does g c =
    does_inside c.args.p.now (ways_of g.C.Cells.known g.C.Cells.may_read g.C.Cells.may_write g.C.Cells.rule) c.args.stmt.now (to_target c.in-Let.value (Var c.in-Let.var)) c.args.vars.now.active c.set.new.vars.active c.args.cells.now c.set.new.cells c.set.result
    (λ (config : Config). ap (λ (s : Statement). executed s config) (sym c.stmt.view_is ∙ ap (λ kind. statement_of c.stmt.inside.point kind) c.in-Let.is)) c.set.ensures.does

pub set-requires-in-Set : goal.set-requires-in-Set
set-requires-in-Set g c =
    may_inside c.args.p.now (ways_of g.C.Cells.known g.C.Cells.may_read g.C.Cells.may_write g.C.Cells.rule) c.args.stmt.now (to_target c.in-Set.value (Var c.in-Set.var)) c.args.vars.now.active c.args.cells.now
    (λ (config : Config). ap (λ (s : Statement). executed s config) (sym c.stmt.view_is ∙ ap (λ kind. statement_of c.stmt.inside.point kind) c.in-Set.is)) c.requires

pub returns-in-Set-clause-does : goal.returns-in-Set-clause-does
returns-in-Set-clause-does g c =
    does_inside c.args.p.now (ways_of g.C.Cells.known g.C.Cells.may_read g.C.Cells.may_write g.C.Cells.rule) c.args.stmt.now (to_target c.in-Set.value (Var c.in-Set.var)) c.args.vars.now.active c.set-in-Set.new.vars.active c.args.cells.now c.set-in-Set.new.cells c.set-in-Set.result
    (λ (config : Config). ap (λ (s : Statement). executed s config) (sym c.stmt.view_is ∙ ap (λ kind. statement_of c.stmt.inside.point kind) c.in-Set.is)) c.set-in-Set.ensures.does

pub set-requires-in-SetCell : goal.set-requires-in-SetCell
set-requires-in-SetCell g c =
    may_inside c.args.p.now (ways_of g.C.Cells.known g.C.Cells.may_read g.C.Cells.may_write g.C.Cells.rule) c.args.stmt.now (to_target c.in-SetCell.value (Cell c.in-SetCell.cell)) c.args.vars.now.active c.args.cells.now
    (λ (config : Config). ap (λ (s : Statement). executed s config) (sym c.stmt.view_is ∙ ap (λ kind. statement_of c.stmt.inside.point kind) c.in-SetCell.is)) c.requires

pub returns-in-SetCell-clause-does : goal.returns-in-SetCell-clause-does
returns-in-SetCell-clause-does g c =
    does_inside c.args.p.now (ways_of g.C.Cells.known g.C.Cells.may_read g.C.Cells.may_write g.C.Cells.rule) c.args.stmt.now (to_target c.in-SetCell.value (Cell c.in-SetCell.cell)) c.args.vars.now.active c.set-in-SetCell.new.vars.active c.args.cells.now c.set-in-SetCell.new.cells c.set-in-SetCell.result
    (λ (config : Config). ap (λ (s : Statement). executed s config) (sym c.stmt.view_is ∙ ap (λ kind. statement_of c.stmt.inside.point kind) c.in-SetCell.is)) c.set-in-SetCell.ensures.does

pub set_element-requires : goal.set_element-requires
set_element-requires g c =
    may_inside c.args.p.now (ways_of g.C.Cells.known g.C.Cells.may_read g.C.Cells.may_write g.C.Cells.rule) c.args.stmt.now (to_element c.in-SetAt-default-default-None-default-default.index c.in-SetAt-default-default-None-default-default.value c.in-SetAt-default-default-None-default-default.array c.in-SetAt-default-default-None-default-default.place) c.args.vars.now.active c.args.cells.now
    (λ (config : Config). ap (λ (s : Statement). executed s config) (let shape : c.args.stmt.now ≡ SetArray c.stmt.inside.point c.in-SetAt-default-default-None-default-default.array c.in-SetAt-default-default-None-default-default.index c.in-SetAt-default-default-None-default-default.value c.in-SetAt-default-default-None-default-default.place = search rules in shape)) c.requires

pub returns-in-SetAt-default-default-None-default-default-clause-does : goal.returns-in-SetAt-default-default-None-default-default-clause-does
returns-in-SetAt-default-default-None-default-default-clause-does g c =
    does_inside c.args.p.now (ways_of g.C.Cells.known g.C.Cells.may_read g.C.Cells.may_write g.C.Cells.rule) c.args.stmt.now (to_element c.in-SetAt-default-default-None-default-default.index c.in-SetAt-default-default-None-default-default.value c.in-SetAt-default-default-None-default-default.array c.in-SetAt-default-default-None-default-default.place) c.args.vars.now.active c.set_element.new.vars.active c.args.cells.now c.set_element.new.cells c.set_element.result
    (λ (config : Config). ap (λ (s : Statement). executed s config) (let shape : c.args.stmt.now ≡ SetArray c.stmt.inside.point c.in-SetAt-default-default-None-default-default.array c.in-SetAt-default-default-None-default-default.index c.in-SetAt-default-default-None-default-default.value c.in-SetAt-default-default-None-default-default.place = search rules in shape)) c.set_element.ensures.does

pub returns-in-Let-clause-stays : goal.returns-in-Let-clause-stays
returns-in-Let-clause-stays g c = stays_so c.args.stmt.now c.set.result (ap is_return (sym c.stmt.view_is ∙ ap (λ kind. statement_of c.stmt.inside.point kind) c.in-Let.is))

pub returns-in-Set-clause-stays : goal.returns-in-Set-clause-stays
returns-in-Set-clause-stays g c = stays_so c.args.stmt.now c.set-in-Set.result (ap is_return (sym c.stmt.view_is ∙ ap (λ kind. statement_of c.stmt.inside.point kind) c.in-Set.is))

pub returns-in-SetCell-clause-stays : goal.returns-in-SetCell-clause-stays
returns-in-SetCell-clause-stays g c = stays_so c.args.stmt.now c.set-in-SetCell.result (ap is_return (sym c.stmt.view_is ∙ ap (λ kind. statement_of c.stmt.inside.point kind) c.in-SetCell.is))

pub returns-in-SetAt-default-default-None-default-default-clause-stays : goal.returns-in-SetAt-default-default-None-default-default-clause-stays
returns-in-SetAt-default-default-None-default-default-clause-stays g c =
    stays_so c.args.stmt.now c.set_element.result
    (ap is_return (let shape : c.args.stmt.now ≡ SetArray c.stmt.inside.point c.in-SetAt-default-default-None-default-default.array c.in-SetAt-default-default-None-default-default.index c.in-SetAt-default-default-None-default-default.value c.in-SetAt-default-default-None-default-default.place = search rules in shape))
