use Rattle.std.proofs.Common.{arith}
use Rattle.seg_meaning.specs.Access.{ways_of}
use Rattle.seg_exec.specs.inner.steps.Reached.{standing}
use Rattle.seg_exec.specs.inner.steps.Views.{config_of}
use Rattle.seg_exec.specs.inner.strides.Moving.{course}
use Rattle.seg_exec.proofs.strides.Carrying.{carried_out, come_before, fault_met, may_carry}
use Rattle.seg_exec.proofs.strides.GoingOn.{rest_at}
use Rattle.seg_exec.proofs.strides.Moving.{near_moves}
use Rattle.seg_exec.proofs.strides.Strides.{may_near, near_goes, nears_more, nears_none, nears_on}
use Rattle.seg_exec.proofs.strides.perform.go_on.Goals as goal

pub statements-init : goal.statements-init
statements-init g c = nears_none c.args.p.now (ways_of g.C.Cells.known g.C.Cells.may_read g.C.Cells.may_write g.C.Cells.rule) (rest_at c.args.block c.args.at c.args.stmts.now (standing c.args.machine.now c.args.cells.now c.args.prints.now))

pub carry_out-requires : goal.carry_out-requires
carry_out-requires g c =
    may_carry c.args.p.now (ways_of g.C.Cells.known g.C.Cells.may_read g.C.Cells.may_write g.C.Cells.rule) c.statements.next c.args.stmts.now c.args.block (config_of c.statements.machine) c.statements.cells c.statements.prints
    (may_near c.args.p.now (ways_of g.C.Cells.known g.C.Cells.may_read g.C.Cells.may_write g.C.Cells.rule) _ _ c.requires c.statements.invariant)

pub returns-in-Done : goal.returns-in-Done
returns-in-Done g c =
    near_goes c.args.p.now (ways_of g.C.Cells.known g.C.Cells.may_read g.C.Cells.may_write g.C.Cells.rule) _ _ _ c.statements.invariant
    (carried_out c.args.p.now (ways_of g.C.Cells.known g.C.Cells.may_read g.C.Cells.may_write g.C.Cells.rule) c.statements.next c.args.stmts.now c.args.block c.statements.machine c.carry_out.new.vars c.statements.cells c.carry_out.new.cells c.statements.prints c.carry_out.ensures.callers c.in-Done.ensures.does)

pub returns-in-Faulted : goal.returns-in-Faulted
returns-in-Faulted g c = λ start r.
    fault_met c.args.p.now (ways_of g.C.Cells.known g.C.Cells.may_read g.C.Cells.may_write g.C.Cells.rule) c.statements.next c.args.stmts.now c.args.block c.statements.machine c.carry_out.new.vars c.statements.cells c.carry_out.new.cells c.statements.prints c.carry_out.ensures.callers c.in-Faulted.fault c.ending.result c.ending.ensures c.in-Faulted.ensures.does
    start (c.statements.invariant.on start r)

pub enter_statement-requires-clause-within : goal.enter_statement-requires-clause-within
enter_statement-requires-clause-within g c = c.in-Left.ensures.does.0

pub enter_statement-requires-clause-may : goal.enter_statement-requires-clause-may
enter_statement-requires-clause-may g c =
    let ways = ways_of g.C.Cells.known g.C.Cells.may_read g.C.Cells.may_write g.C.Cells.rule in
    may_near c.args.p.now ways _ _ (may_near c.args.p.now ways _ _ c.requires c.statements.invariant)
    (come_before c.args.p.now ways c.statements.next c.args.stmts.now c.args.block c.statements.machine c.carry_out.new.vars c.statements.cells c.carry_out.new.cells c.statements.prints c.carry_out.ensures.callers c.in-Left.left c.in-Left.ensures.does.1)

pub statements-preserved : goal.statements-preserved
statements-preserved g c =
    let ways = ways_of g.C.Cells.known g.C.Cells.may_read g.C.Cells.may_write g.C.Cells.rule in
    nears_more c.args.p.now ways _ _ _
    (nears_on c.args.p.now ways _ _ _ c.statements.invariant
    (come_before c.args.p.now ways c.statements.next c.args.stmts.now c.args.block c.statements.machine c.carry_out.new.vars c.statements.cells c.carry_out.new.cells c.statements.prints c.carry_out.ensures.callers c.in-Left.left c.in-Left.ensures.does.1))
    (rw c.in_default.is at c.in_ok-passed-in-Left.ensures)

pub statements-smaller : goal.statements-smaller
statements-smaller g c = omega (arith, c.in-Left.ensures.does.0, c.in-Left.ensures.does.2)

pub returns-in-Some : goal.returns-in-Some
returns-in-Some g c =
    let ways = ways_of g.C.Cells.known g.C.Cells.may_read g.C.Cells.may_write g.C.Cells.rule in
    let from = rest_at c.args.block c.args.at c.args.stmts.now (standing c.args.machine.now c.args.cells.now c.args.prints.now) in
    let now = rest_at c.args.block c.in-Left.left c.args.stmts.now (standing (record c.statements.machine { vars = c.carry_out.new.vars }) c.carry_out.new.cells c.statements.prints) in
    let came = come_before c.args.p.now ways c.statements.next c.args.stmts.now c.args.block c.statements.machine c.carry_out.new.vars c.statements.cells c.carry_out.new.cells c.statements.prints c.carry_out.ensures.callers c.in-Left.left c.in-Left.ensures.does.1 in
    near_moves c.args.p.now (ways_of g.C.Cells.known g.C.Cells.may_read g.C.Cells.may_write g.C.Cells.rule) from now (standing c.enter_statement.new.machine c.enter_statement.new.cells c.enter_statement.new.prints) (course c.in-Some.onward c.enter_statement.new.machine)
    (nears_on c.args.p.now ways _ _ _ c.statements.invariant came) (rw c.in-Some.is at c.in_ok-passed-in-Left.ensures)
