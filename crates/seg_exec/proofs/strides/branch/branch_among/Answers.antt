use Rattle.std.proofs.Common.{◌≡◌, drop, rules, subst}
use Rattle.twe_program.specs.Statement.{Statements, statements_of}
use Rattle.twe_program.specs.inner.StatementView.{arms_of}
use Rattle.seg_exec.specs.declared.strides.pick.Picked.TheVariants.{Faulted, Nothing, Body, Left}
use Rattle.seg_meaning.specs.Access.{ways_of}
use Rattle.seg_exec.specs.inner.steps.Continuations.{Choose, Rest}
use Rattle.seg_exec.specs.inner.steps.Reached.{standing}
use Rattle.seg_exec.specs.inner.steps.Views.{config_of}
use Rattle.seg_exec.specs.inner.strides.Strides.{Goes, doing}
use Rattle.seg_exec.specs.inner.strides.Moving.{course}
use Rattle.seg_exec.proofs.strides.Branching.{arms_left, before, body_picked, fault_picked, nothing_picked, picks_at, value_picked}
use Rattle.seg_exec.proofs.strides.Moving.{near_moves, then_moves}
use Rattle.seg_exec.proofs.strides.Strides.{may_near, may_then}
use Rattle.seg_exec.proofs.strides.branch.branch_among.Goals as goal

pub choose-requires : goal.choose-requires
choose-requires g c =
    let ways = ways_of g.C.Cells.known g.C.Cells.may_read g.C.Cells.may_write g.C.Cells.rule in
    let old = config_of c.args.machine.now in
    let rest = Rest c.args.block c.args.at (statements_of (drop c.args.at c.args.stmts.now)) in
    may_near c.args.p.now ways _ _ c.requires
    (arms_left c.args.p.now ways c.args.arms.now c.args.last.now rest old c.args.cells.now c.pick.new.cells c.args.prints.now c.in-Left.next (config_of c.push-in-Left.new.self) c.in_ok-push-in-Left.ensures
    (picks_at c.args.p.now ways c.args.arms.now c.args.last.now rest c.as_slice.result.now old.vars c.args.cells.now c.pick.new.cells (Left c.in-Left.next) c.as_slice.ensures c.in-Left.ensures))

pub returns-in-Faulted : goal.returns-in-Faulted
returns-in-Faulted g c =
    let ways = ways_of g.C.Cells.known g.C.Cells.may_read g.C.Cells.may_write g.C.Cells.rule in
    let old = config_of c.args.machine.now in
    let rest = Rest c.args.block c.args.at (statements_of (drop c.args.at c.args.stmts.now)) in
    fault_picked c.args.p.now ways c.args.arms.now c.args.last.now rest old c.args.cells.now c.pick.new.cells c.args.prints.now c.in-Faulted.fault c.ending.result c.ending.ensures
    (picks_at c.args.p.now ways c.args.arms.now c.args.last.now rest c.as_slice.result.now old.vars c.args.cells.now c.pick.new.cells (Faulted c.in-Faulted.fault) c.as_slice.ensures c.in-Faulted.ensures)

pub returns-in-Nothing : goal.returns-in-Nothing
returns-in-Nothing g c =
    let ways = ways_of g.C.Cells.known g.C.Cells.may_read g.C.Cells.may_write g.C.Cells.rule in
    let old = config_of c.args.machine.now in
    let rest = Rest c.args.block c.args.at (statements_of (drop c.args.at c.args.stmts.now)) in
    nothing_picked c.args.p.now ways c.args.arms.now c.args.last.now rest old c.args.cells.now c.pick.new.cells c.args.prints.now
    (picks_at c.args.p.now ways c.args.arms.now c.args.last.now rest c.as_slice.result.now old.vars c.args.cells.now c.pick.new.cells Nothing c.as_slice.ensures c.in-Nothing.ensures)

pub returns-in_ok-push-in-None : goal.returns-in_ok-push-in-None
returns-in_ok-push-in-None g c =
    let ways = ways_of g.C.Cells.known g.C.Cells.may_read g.C.Cells.may_write g.C.Cells.rule in
    let old = config_of c.args.machine.now in
    let rest = Rest c.args.block c.args.at (statements_of (drop c.args.at c.args.stmts.now)) in
    let is : c.in-Body.body.now ≡ statements_of (drop 0 c.as_slice-inner.result.now) = search rules in
    subst (λ (stmts : Statements). Goes c.args.p.now (ways_of g.C.Cells.known g.C.Cells.may_read g.C.Cells.may_write g.C.Cells.rule)
    (before c.args.p.now (ways_of g.C.Cells.known g.C.Cells.may_read g.C.Cells.may_write g.C.Cells.rule) c.args.arms.now c.args.last.now (Rest c.args.block c.args.at (statements_of (drop c.args.at c.args.stmts.now))) (config_of c.args.machine.now) c.args.cells.now c.args.prints.now)
    (doing (Rest c.in-Body.number 0 stmts) (standing c.push.new.self c.pick.new.cells c.args.prints.now))) is
    (body_picked c.args.p.now ways c.args.arms.now c.args.last.now rest old c.args.cells.now c.pick.new.cells c.args.prints.now c.in-Body.number c.in-Body.body.now (config_of c.push.new.self) c.in_ok-push-in-None.ensures
    (picks_at c.args.p.now ways c.args.arms.now c.args.last.now rest c.as_slice.result.now old.vars c.args.cells.now c.pick.new.cells (Body c.in-Body.number c.in-Body.body) c.as_slice.ensures c.in-Body.ensures))

pub returns-in_ok-onward-in-Left : goal.returns-in_ok-onward-in-Left
returns-in_ok-onward-in-Left g c =
    let ways = ways_of g.C.Cells.known g.C.Cells.may_read g.C.Cells.may_write g.C.Cells.rule in
    let old = config_of c.args.machine.now in
    let rest = Rest c.args.block c.args.at (statements_of (drop c.args.at c.args.stmts.now)) in
    let from = before c.args.p.now ways c.args.arms.now c.args.last.now rest old c.args.cells.now c.args.prints.now in
    let mid = doing (Choose c.in-Left.next (arms_of (drop c.in-Left.next c.args.arms.now) c.args.last.now)) (standing c.push-in-Left.new.self c.pick.new.cells c.args.prints.now) in
    let after = standing c.choose.new.machine c.choose.new.cells c.choose.new.prints in
    near_moves c.args.p.now (ways_of g.C.Cells.known g.C.Cells.may_read g.C.Cells.may_write g.C.Cells.rule) from mid after (course c.in_ok-onward-in-Left.onward c.choose.new.machine)
    (arms_left c.args.p.now ways c.args.arms.now c.args.last.now rest old c.args.cells.now c.pick.new.cells c.args.prints.now c.in-Left.next (config_of c.push-in-Left.new.self) c.in_ok-push-in-Left.ensures
    (picks_at c.args.p.now ways c.args.arms.now c.args.last.now rest c.as_slice.result.now old.vars c.args.cells.now c.pick.new.cells (Left c.in-Left.next) c.as_slice.ensures c.in-Left.ensures)) c.in_ok-onward-in-Left.ensures

pub give-requires-clause-plain : goal.give-requires-clause-plain
give-requires-clause-plain g c = let returned = c.in-Some.ensures in returned.0

pub give-requires-clause-may : goal.give-requires-clause-may
give-requires-clause-may g c =
    let ways = ways_of g.C.Cells.known g.C.Cells.may_read g.C.Cells.may_write g.C.Cells.rule in
    let old = config_of c.args.machine.now in
    let rest = Rest c.args.block c.args.at (statements_of (drop c.args.at c.args.stmts.now)) in
    let is : c.in-Body.body.now ≡ statements_of c.as_slice-inner.result.now = search rules in
    may_then c.args.p.now ways _ _ c.requires
    (value_picked c.args.p.now ways c.args.arms.now c.args.last.now rest old c.args.cells.now c.pick.new.cells c.args.prints.now c.in-Body.number c.in-Body.body.now (statements_of c.as_slice-inner.result.now) c.in-Some.value.now is c.in-Some.ensures
    (picks_at c.args.p.now ways c.args.arms.now c.args.last.now rest c.as_slice.result.now old.vars c.args.cells.now c.pick.new.cells (Body c.in-Body.number c.in-Body.body) c.as_slice.ensures c.in-Body.ensures))

pub returns-in_ok-onward-in-Some : goal.returns-in_ok-onward-in-Some
returns-in_ok-onward-in-Some g c =
    let ways = ways_of g.C.Cells.known g.C.Cells.may_read g.C.Cells.may_write g.C.Cells.rule in
    let old = config_of c.args.machine.now in
    let rest = Rest c.args.block c.args.at (statements_of (drop c.args.at c.args.stmts.now)) in
    let is : c.in-Body.body.now ≡ statements_of c.as_slice-inner.result.now = search rules in
    let from = before c.args.p.now ways c.args.arms.now c.args.last.now rest old c.args.cells.now c.args.prints.now in
    let after = standing c.give.new.machine c.give.new.cells c.give.new.prints in
    then_moves c.args.p.now ways from _ after (course c.in_ok-onward-in-Some.onward c.give.new.machine)
    (value_picked c.args.p.now ways c.args.arms.now c.args.last.now rest old c.args.cells.now c.pick.new.cells c.args.prints.now c.in-Body.number c.in-Body.body.now (statements_of c.as_slice-inner.result.now) c.in-Some.value.now is c.in-Some.ensures
    (picks_at c.args.p.now ways c.args.arms.now c.args.last.now rest c.as_slice.result.now old.vars c.args.cells.now c.pick.new.cells (Body c.in-Body.number c.in-Body.body) c.as_slice.ensures c.in-Body.ensures)) c.in_ok-onward-in-Some.ensures
