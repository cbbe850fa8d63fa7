use Rattle.std.proofs.Common.{◌∷◌, SFits, w32, drop, ap, rules}
use Rattle.std.proofs.lemmas.Int.{to_z-of_z}
use Rattle.twe_program.specs.Statement.{statements_of}
use Rattle.seg_meaning.specs.Access.{ways_of}
use Rattle.seg_exec.specs.inner.steps.Continuations.{Rest, Unwind, with_operand}
use Rattle.seg_exec.specs.inner.steps.Reached.{standing}
use Rattle.seg_exec.specs.inner.steps.Views.{config_of}
use Rattle.seg_exec.specs.inner.strides.Moving.{course}
use Rattle.seg_exec.proofs.strides.GivenBack.{given_past, returning_from}
use Rattle.seg_exec.proofs.strides.Moving.{then_moves}
use Rattle.seg_exec.proofs.strides.Performing.{carries_fault}
use Rattle.seg_exec.proofs.strides.Strides.{may_then}
use Rattle.seg_meaning.proofs.Results.{if_ok_map}
use Rattle.seg_exec.proofs.strides.give.give.Goals as goal

pub returns-in-Err : goal.returns-in-Err
returns-in-Err g c =
    let old = config_of c.args.machine.now in
    carries_fault c.args.p.now (ways_of g.C.Cells.known g.C.Cells.may_read g.C.Cells.may_write g.C.Cells.rule) c.args.value.now c.as_slice.result.now old (Unwind ∷ (Rest c.args.block c.args.at (statements_of (drop c.args.at c.args.stmts.now)) ∷ old.work)) c.args.cells.now c.value_of.new.cells c.args.prints.now
    c.in-Err.fault c.ending.result c.as_slice.ensures c.in-Err.ensures c.ending.ensures

pub leave_with-requires : goal.leave_with-requires
leave_with-requires g c =
    let fits : SFits w32 c.in-Ok.value = search rules in
    let ways = ways_of g.C.Cells.known g.C.Cells.may_read g.C.Cells.may_write g.C.Cells.rule in
    let old = config_of c.args.machine.now in
    let stmts = statements_of (drop c.args.at c.args.stmts.now) in
    may_then c.args.p.now ways _ _ c.requires.may
    (given_past c.args.p.now ways c.args.block c.args.at stmts c.args.value.now c.as_slice.result.now old _ c.args.cells.now c.value_of.new.cells c.args.prints.now c.in-Ok.value c.as_slice.ensures c.in-Ok.ensures (ap (λ v. with_operand v old) (to_z-of_z w32 c.in-Ok.value fits)))

pub returns-in-Ok : goal.returns-in-Ok
returns-in-Ok g c =
    let fits : SFits w32 c.in-Ok.value = search rules in
    let ways = ways_of g.C.Cells.known g.C.Cells.may_read g.C.Cells.may_write g.C.Cells.rule in
    let old = config_of c.args.machine.now in
    let stmts = statements_of (drop c.args.at c.args.stmts.now) in
    let after = standing c.leave_with.new.machine c.leave_with.new.cells c.leave_with.new.prints in
    if_ok_map c.leave_with.result (λ onward rest. then_moves c.args.p.now ways (returning_from c.args.p.now ways c.args.block c.args.at stmts c.args.value.now old c.args.cells.now c.args.prints.now) _ after (course onward c.leave_with.new.machine)
    (given_past c.args.p.now ways c.args.block c.args.at stmts c.args.value.now c.as_slice.result.now old _ c.args.cells.now c.value_of.new.cells c.args.prints.now c.in-Ok.value c.as_slice.ensures c.in-Ok.ensures (ap (λ v. with_operand v old) (to_z-of_z w32 c.in-Ok.value fits))) rest) c.leave_with.ensures
