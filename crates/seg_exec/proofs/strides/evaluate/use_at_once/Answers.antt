use Rattle.std.proofs.Common.{◌∷◌, SFits, w32, ap, rules, ◌∙◌}
use Rattle.std.proofs.lemmas.Int.{to_z-of_z}
use Rattle.seg_meaning.specs.Access.{ways_of}
use Rattle.seg_exec.specs.inner.steps.Continuations.{Evaluate, to_do, with_operand}
use Rattle.seg_exec.specs.inner.steps.Reached.{standing}
use Rattle.seg_exec.specs.inner.steps.Views.{config_of, use_of}
use Rattle.seg_exec.specs.inner.strides.Strides.{doing}
use Rattle.seg_exec.specs.inner.strides.Moving.{course}
use Rattle.seg_exec.proofs.strides.Performing.{carries_fault, carries_value, may_after, placed}
use Rattle.seg_meaning.proofs.Results.{if_ok_map}
use Rattle.seg_exec.proofs.strides.Moving.{then_moves}
use Rattle.seg_exec.proofs.strides.evaluate.use_at_once.Goals as goal

pub use_value-requires : goal.use_value-requires
use_value-requires g c =
    let fits : SFits w32 c.in-Ok.value = search rules in
    may_after c.args.p.now (ways_of g.C.Cells.known g.C.Cells.may_read g.C.Cells.may_write g.C.Cells.rule) c.args.expr.now c.as_slice.result.now (to_do (use_of c.args.then.now) (config_of c.args.machine.now)) (to_do (use_of c.args.then.now) (config_of c.push_operand.new.self)) c.args.cells.now c.value_of.new.cells c.args.prints.now
    c.in-Ok.value c.as_slice.ensures c.in-Ok.ensures (ap (to_do (use_of c.args.then.now)) (c.in_ok-push_operand-in-Ok.ensures ∙ ap (λ v. with_operand v (config_of c.args.machine.now)) (to_z-of_z w32 c.in-Ok.value fits))) c.requires.may

pub returns-in-Err : goal.returns-in-Err
returns-in-Err g c =
    carries_fault c.args.p.now (ways_of g.C.Cells.known g.C.Cells.may_read g.C.Cells.may_write g.C.Cells.rule) c.args.expr.now c.as_slice.result.now (config_of c.args.machine.now) ((use_of c.args.then.now) ∷ (config_of c.args.machine.now).work) c.args.cells.now c.value_of.new.cells c.args.prints.now
    c.in-Err.fault c.ending.result c.as_slice.ensures c.in-Err.ensures c.ending.ensures

pub returns-in_ok-push_operand-in-Ok : goal.returns-in_ok-push_operand-in-Ok
returns-in_ok-push_operand-in-Ok g c =
    let fits : SFits w32 c.in-Ok.value = search rules in
    let ways = ways_of g.C.Cells.known g.C.Cells.may_read g.C.Cells.may_write g.C.Cells.rule in
    let old = to_do (use_of c.args.then.now) (config_of c.args.machine.now) in
    let mid = to_do (use_of c.args.then.now) (config_of c.push_operand.new.self) in
    let before = doing (use_of c.args.then.now) (standing c.push_operand.new.self c.value_of.new.cells c.args.prints.now) in
    let after = standing c.use_value.new.machine c.use_value.new.cells c.use_value.new.prints in
    if_ok_map c.use_value.result (λ onward rest. then_moves c.args.p.now ways (doing (Evaluate c.args.expr.now) (placed old c.args.cells.now c.args.prints.now)) before after (course onward c.use_value.new.machine)
    (carries_value c.args.p.now ways c.args.expr.now c.as_slice.result.now old mid c.args.cells.now c.value_of.new.cells c.args.prints.now
    c.in-Ok.value c.as_slice.ensures c.in-Ok.ensures (ap (to_do (use_of c.args.then.now)) (c.in_ok-push_operand-in-Ok.ensures ∙ ap (λ v. with_operand v (config_of c.args.machine.now)) (to_z-of_z w32 c.in-Ok.value fits)))) rest) c.use_value.ensures
