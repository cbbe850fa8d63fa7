use Rattle.std.proofs.Common.{◌≤◌, ◌∙◌, length, refl, arith}
use Rattle.std.proofs.lemmas.List.{drop_all}
use Rattle.seg_meaning.specs.Access.{ways_of}
use Rattle.seg_exec.proofs.strides.Carrying.{all_done, next_done, next_fault, next_left, next_may, none_done}
use Rattle.seg_exec.proofs.strides.GoingOn.{next_is}
use Rattle.seg_exec.proofs.strides.carry.carry_out.Goals as goal

pub loop-next-init : goal.loop-next-init
loop-next-init g c = (none_done c.args.p.now (ways_of g.C.Cells.known g.C.Cells.may_read g.C.Cells.may_write g.C.Cells.rule) c.args.at c.args.stmts.now c.args.vars.now.active c.args.cells.now, refl, omega arith)

pub assign-requires : goal.assign-requires
assign-requires g c =
    let ways = ways_of g.C.Cells.known g.C.Cells.may_read g.C.Cells.may_write g.C.Cells.rule in
    let is = next_is c.args.stmts.now c.loop-next.next c.index-stmts-next.result c.loop-next-test.true c.index-stmts-next.is in
    next_may c.args.p.now ways c.args.at c.args.stmts.now c.args.vars.now.active c.args.cells.now c.loop-next.next c.loop-next.vars.active c.loop-next.cells c.loop-next.invariant.0 c.index-stmts-next.result is c.requires

pub loop-next-preserved : goal.loop-next-preserved
loop-next-preserved g c =
    let ways = ways_of g.C.Cells.known g.C.Cells.may_read g.C.Cells.may_write g.C.Cells.rule in
    let is = next_is c.args.stmts.now c.loop-next.next c.index-stmts-next.result c.loop-next-test.true c.index-stmts-next.is in (
      next_done c.args.p.now ways c.args.at c.args.stmts.now c.args.vars.now.active c.args.cells.now c.loop-next.next c.loop-next.vars.active c.loop-next.cells c.loop-next.invariant.0 c.index-stmts-next.result is c.in-Done.ensures.stays c.assign.new.vars.active c.assign.new.cells c.in-Done.ensures.does,
      c.assign.ensures.callers ∙ c.loop-next.invariant.1,
      omega (arith, c.loop-next.invariant.2),
    )

pub returns-in-Faulted : goal.returns-in-Faulted
returns-in-Faulted g c =
    let ways = ways_of g.C.Cells.known g.C.Cells.may_read g.C.Cells.may_write g.C.Cells.rule in
    let is = next_is c.args.stmts.now c.loop-next.next c.index-stmts-next.result c.loop-next-test.true c.index-stmts-next.is in
    record {
      does = next_fault c.args.p.now ways c.args.at c.args.stmts.now c.args.vars.now.active c.args.cells.now c.loop-next.next c.loop-next.vars.active c.loop-next.cells c.loop-next.invariant.0 c.index-stmts-next.result is c.assign.new.vars.active c.assign.new.cells c.in-Faulted.fault c.in-Faulted.ensures.does;
      callers = c.assign.ensures.callers ∙ c.loop-next.invariant.1;
    }

pub returns-in-Left : goal.returns-in-Left
returns-in-Left g c =
    let ways = ways_of g.C.Cells.known g.C.Cells.may_read g.C.Cells.may_write g.C.Cells.rule in
    record {
      does = (c.loop-next-test.true, next_left c.args.p.now ways c.args.at c.args.stmts.now c.args.vars.now.active c.args.cells.now c.loop-next.next c.loop-next.vars.active c.loop-next.cells c.loop-next.invariant.0 c.assign.new.vars.active c.assign.new.cells c.in-Left.ensures.does, c.loop-next.invariant.2);
      callers = c.assign.ensures.callers ∙ c.loop-next.invariant.1;
    }

pub returns : goal.returns
returns g c =
    let ways = ways_of g.C.Cells.known g.C.Cells.may_read g.C.Cells.may_write g.C.Cells.rule in
    let past : length c.args.stmts.now ≤ c.loop-next.next = omega arith in
    record {
      does = all_done c.args.p.now ways c.args.at c.args.stmts.now c.args.vars.now.active c.args.cells.now c.loop-next.next c.loop-next.vars.active c.loop-next.cells c.loop-next.invariant.0 (drop_all c.loop-next.next c.args.stmts.now past);
      callers = c.loop-next.invariant.1;
    }
