use Rattle.std.proofs.Common.{◌≡◌, ◌+◌, true, false, Some, ap, rules, sym, ◌∙◌}
use Rattle.twe_program.specs.Statement.{Return, Statement}
use Rattle.twe_program.specs.inner.StatementView.{statement_of}
use Rattle.seg_meaning.specs.Access.{ways_of}
use Rattle.seg_exec.specs.inner.steps.Continuations.{Choose, Config, Evaluate, Unwind, to_do}
use Rattle.seg_exec.specs.inner.steps.Reached.{standing}
use Rattle.seg_exec.specs.inner.steps.Steps.{executed, is_return}
use Rattle.seg_exec.specs.inner.steps.Views.{config_of}
use Rattle.seg_exec.specs.inner.strides.Moving.{course}
use Rattle.seg_exec.proofs.strides.GoingOn.{into, next_is, rest_at}
use Rattle.seg_exec.proofs.strides.Moving.{then_moves, then_passes}
use Rattle.seg_exec.proofs.strides.Strides.{may_then}
use Rattle.seg_meaning.proofs.Results.{if_ok_map}
use Rattle.seg_exec.proofs.strides.perform.enter_statement.Goals as goal

pub branch-alloc-requires : goal.branch-alloc-requires
branch-alloc-requires g c =
    let ways = ways_of g.C.Cells.known g.C.Cells.may_read g.C.Cells.may_write g.C.Cells.rule in
    let is = next_is c.args.stmts.now c.args.at c.index-stmts-at.result c.requires.within c.index-stmts-at.is in
    may_then c.args.p.now ways _ _ c.requires.may
    (into c.args.p.now ways c.args.block c.args.at c.args.stmts.now c.index-stmts-at.result is false (ap is_return (sym c.stmt.view_is ∙ ap (λ kind. statement_of c.stmt.inside.point kind) c.in-If.is)) (to_do (Choose 0 c.in-If.arms))
    (λ (config : Config). ap (λ (s : Statement). executed s config) (sym c.stmt.view_is ∙ ap (λ kind. statement_of c.stmt.inside.point kind) c.in-If.is)) (config_of c.args.machine.now) c.args.cells.now c.args.prints.now)

pub return_value-requires : goal.return_value-requires
return_value-requires g c =
    let ways = ways_of g.C.Cells.known g.C.Cells.may_read g.C.Cells.may_write g.C.Cells.rule in
    let is = next_is c.args.stmts.now c.args.at c.index-stmts-at.result c.requires.within c.index-stmts-at.is in
    let shape : c.index-stmts-at.result ≡ Return c.stmt.inside.point (Some c.in-Return-Some.value) = search rules in
    may_then c.args.p.now ways _ _ c.requires.may
    (into c.args.p.now ways c.args.block c.args.at c.args.stmts.now c.index-stmts-at.result is true (ap is_return shape) (λ config. to_do (Evaluate c.in-Return-Some.value) (to_do Unwind config))
    (λ (config : Config). ap (λ (s : Statement). executed s config) shape) (config_of c.args.machine.now) c.args.cells.now c.args.prints.now)

pub returns-in-If : goal.returns-in-If
returns-in-If g c =
    let ways = ways_of g.C.Cells.known g.C.Cells.may_read g.C.Cells.may_write g.C.Cells.rule in
    let is = next_is c.args.stmts.now c.args.at c.index-stmts-at.result c.requires.within c.index-stmts-at.is in
    if_ok_map c.branch-alloc.result (λ passed rest. then_passes c.args.p.now (ways_of g.C.Cells.known g.C.Cells.may_read g.C.Cells.may_write g.C.Cells.rule) _ _ c.args.block (c.args.at + 1) c.args.stmts.now c.branch-alloc.new.machine c.branch-alloc.new.cells c.branch-alloc.new.prints passed
    (into c.args.p.now ways c.args.block c.args.at c.args.stmts.now c.index-stmts-at.result is false (ap is_return (sym c.stmt.view_is ∙ ap (λ kind. statement_of c.stmt.inside.point kind) c.in-If.is)) (to_do (Choose 0 c.in-If.arms))
    (λ (config : Config). ap (λ (s : Statement). executed s config) (sym c.stmt.view_is ∙ ap (λ kind. statement_of c.stmt.inside.point kind) c.in-If.is)) (config_of c.args.machine.now) c.args.cells.now c.args.prints.now) rest) c.branch-alloc.ensures

pub returns-in_ok-onward-in-Return-Some : goal.returns-in_ok-onward-in-Return-Some
returns-in_ok-onward-in-Return-Some g c =
    let ways = ways_of g.C.Cells.known g.C.Cells.may_read g.C.Cells.may_write g.C.Cells.rule in
    let is = next_is c.args.stmts.now c.args.at c.index-stmts-at.result c.requires.within c.index-stmts-at.is in
    let shape : c.index-stmts-at.result ≡ Return c.stmt.inside.point (Some c.in-Return-Some.value) = search rules in
    let from = rest_at c.args.block c.args.at c.args.stmts.now (standing c.args.machine.now c.args.cells.now c.args.prints.now) in
    let new = standing c.return_value.new.machine c.return_value.new.cells c.return_value.new.prints in
    then_moves c.args.p.now (ways_of g.C.Cells.known g.C.Cells.may_read g.C.Cells.may_write g.C.Cells.rule) from _ new (course c.in_ok-onward-in-Return-Some.onward c.return_value.new.machine)
    (into c.args.p.now ways c.args.block c.args.at c.args.stmts.now c.index-stmts-at.result is true (ap is_return shape) (λ config. to_do (Evaluate c.in-Return-Some.value) (to_do Unwind config))
    (λ (config : Config). ap (λ (s : Statement). executed s config) shape) (config_of c.args.machine.now) c.args.cells.now c.args.prints.now) c.in_ok-onward-in-Return-Some.ensures
