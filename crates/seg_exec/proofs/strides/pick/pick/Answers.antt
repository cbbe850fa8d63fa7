use Rattle.std.proofs.Common.{◌≡◌, ◌≤◌, true, false, length, SFits, w32, arith, rules}
use Rattle.std.proofs.lemmas.List.{drop_all}
use Rattle.seg_meaning.specs.Access.{ways_of}
use Rattle.seg_meaning.specs.Arithmetic.{is_true}
use Rattle.seg_exec.proofs.strides.GoingOn.{next_is}
use Rattle.seg_exec.proofs.strides.Picking.{condition_false, condition_fault, condition_may, condition_true, last_chosen, none_chosen, none_tried}
use Rattle.seg_exec.proofs.strides.pick.pick.Goals as goal

pub loop-next-init : goal.loop-next-init
loop-next-init g c = none_tried c.args.p.now (ways_of g.C.Cells.known g.C.Cells.may_read g.C.Cells.may_write g.C.Cells.rule) c.args.arms.now c.args.last.now c.args.vars.now c.args.cells.now

pub value_of-requires-clause-may : goal.value_of-requires-clause-may
value_of-requires-clause-may g c =
    let is = next_is c.args.arms.now c.loop-next.next c.index-arms-next.result c.loop-next-test.true c.index-arms-next.is in
    condition_may c.args.p.now (ways_of g.C.Cells.known g.C.Cells.may_read g.C.Cells.may_write g.C.Cells.rule) c.args.arms.now c.args.last.now c.args.vars.now c.loop-next.next c.index-arms-next.result is c.args.cells.now c.loop-next.cells c.requires c.loop-next.invariant

pub returns-in-Err : goal.returns-in-Err
returns-in-Err g c =
    let is = next_is c.args.arms.now c.loop-next.next c.index-arms-next.result c.loop-next-test.true c.index-arms-next.is in
    condition_fault c.args.p.now (ways_of g.C.Cells.known g.C.Cells.may_read g.C.Cells.may_write g.C.Cells.rule) c.args.arms.now c.args.last.now c.args.vars.now c.loop-next.next c.index-arms-next.result is c.args.cells.now c.loop-next.cells c.value_of.new.cells c.in-Err.fault c.loop-next.invariant c.in-Err.ensures

pub returns-then-is_true : goal.returns-then-is_true
returns-then-is_true g c =
    let is = next_is c.args.arms.now c.loop-next.next c.index-arms-next.result c.loop-next-test.true c.index-arms-next.is in
    let fits : SFits w32 c.in-Ok.value = search rules in
    let holds : is_true c.in-Ok.value ≡ true = search rules in
    condition_true c.args.p.now (ways_of g.C.Cells.known g.C.Cells.may_read g.C.Cells.may_write g.C.Cells.rule) c.args.arms.now c.args.last.now c.args.vars.now c.loop-next.next c.index-arms-next.result is c.args.cells.now c.loop-next.cells c.value_of.new.cells c.in-Ok.value c.loop-next.invariant c.in-Ok.ensures holds

pub loop-next-preserved : goal.loop-next-preserved
loop-next-preserved g c =
    let is = next_is c.args.arms.now c.loop-next.next c.index-arms-next.result c.loop-next-test.true c.index-arms-next.is in
    let fits : SFits w32 c.in-Ok.value = search rules in
    let fails : is_true c.in-Ok.value ≡ false = search rules in
    condition_false c.args.p.now (ways_of g.C.Cells.known g.C.Cells.may_read g.C.Cells.may_write g.C.Cells.rule) c.args.arms.now c.args.last.now c.args.vars.now c.loop-next.next c.index-arms-next.result is c.args.cells.now c.loop-next.cells c.value_of.new.cells c.in-Ok.value c.loop-next.invariant c.in-Ok.ensures fails

pub returns-in-None : goal.returns-in-None
returns-in-None g c =
    let past : length c.args.arms.now ≤ c.loop-next.next = omega arith in
    none_chosen c.args.p.now (ways_of g.C.Cells.known g.C.Cells.may_read g.C.Cells.may_write g.C.Cells.rule) c.args.arms.now c.args.last.now c.args.vars.now c.loop-next.next (drop_all c.loop-next.next c.args.arms.now past) c.args.cells.now c.loop-next.cells c.in-None.is c.loop-next.invariant

pub returns-in-Some : goal.returns-in-Some
returns-in-Some g c =
    let past : length c.args.arms.now ≤ c.loop-next.next = omega arith in
    last_chosen c.args.p.now (ways_of g.C.Cells.known g.C.Cells.may_read g.C.Cells.may_write g.C.Cells.rule) c.args.arms.now c.args.last.now c.args.vars.now c.loop-next.next (drop_all c.loop-next.next c.args.arms.now past) c.args.cells.now c.loop-next.cells c.in-Some.body c.in-Some.is c.loop-next.invariant
