use Rattle.std.proofs.Common.{◌≡◌, None, Some, SFits, w32, of_z, to_z, ap, rules, ◌∙◌}
use Rattle.std.proofs.lemmas.Int.{to_z-of_z}
use Rattle.twe_base.specs.Stacks.{below}
use Rattle.seg_meaning.specs.Access.{ways_of}
use Rattle.seg_meaning.specs.Arithmetic.{operated}
use Rattle.seg_exec.specs.inner.steps.Continuations.{Apply, Unwind, to_do, top, with_operand, without_operand}
use Rattle.seg_exec.specs.inner.steps.Reached.{standing}
use Rattle.seg_exec.specs.inner.steps.Views.{config_of}
use Rattle.seg_exec.specs.inner.strides.Moving.{course}
use Rattle.seg_exec.proofs.strides.Applying.{has_value, no_value}
use Rattle.seg_exec.proofs.strides.Moving.{moves_silent}
use Rattle.seg_exec.proofs.strides.Performing.{may_silent}
use Rattle.seg_meaning.proofs.Results.{if_ok_map}
use Rattle.seg_exec.proofs.strides.return_value.apply_then_return.Goals as goal

pub leave_with-requires : goal.leave_with-requires
leave_with-requires g c =
    let old = config_of c.args.machine.now in
    let fits : SFits w32 c.in-Some.value = search rules in
    let popped : config_of c.pop_operand-left.new.self ≡ without_operand (without_operand old) = search rules in
    let mid = with_operand (to_z w32 (of_z w32 c.in-Some.value)) (config_of c.pop_operand-left.new.self) in
    let is : operated c.args.op (top (below old.operands)) (top old.operands) ≡ Some c.in-Some.value = search rules in
    let same : mid ≡ with_operand c.in-Some.value (without_operand (without_operand old)) =
    ap (λ v. with_operand v (config_of c.pop_operand-left.new.self)) (to_z-of_z w32 c.in-Some.value fits) ∙ ap (with_operand c.in-Some.value) popped
    in
    may_silent c.args.p.now (ways_of g.C.Cells.known g.C.Cells.may_read g.C.Cells.may_write g.C.Cells.rule) (Apply c.args.op c.args.place) (to_do Unwind old) (to_do Unwind mid) c.args.cells.now c.args.prints.now
    (has_value c.args.p.now c.args.op c.args.place old mid c.in-Some.value is same) c.requires

pub returns-in-None : goal.returns-in-None
returns-in-None g c =
    let old = config_of c.args.machine.now in
    let mid = config_of c.pop_operand-left.new.self in
    let is : operated c.args.op (top (below old.operands)) (top old.operands) ≡ None = search rules in
    let same : mid ≡ without_operand (without_operand old) = search rules in
    no_value c.args.p.now (ways_of g.C.Cells.known g.C.Cells.may_read g.C.Cells.may_write g.C.Cells.rule) c.args.op c.args.place old mid c.args.cells.now c.args.prints.now is same

pub returns-in-Some : goal.returns-in-Some
returns-in-Some g c =
    let old = config_of c.args.machine.now in
    let fits : SFits w32 c.in-Some.value = search rules in
    let popped : config_of c.pop_operand-left.new.self ≡ without_operand (without_operand old) = search rules in
    let mid = with_operand (to_z w32 (of_z w32 c.in-Some.value)) (config_of c.pop_operand-left.new.self) in
    let is : operated c.args.op (top (below old.operands)) (top old.operands) ≡ Some c.in-Some.value = search rules in
    let same : mid ≡ with_operand c.in-Some.value (without_operand (without_operand old)) =
    ap (λ v. with_operand v (config_of c.pop_operand-left.new.self)) (to_z-of_z w32 c.in-Some.value fits) ∙ ap (with_operand c.in-Some.value) popped
    in
    if_ok_map c.leave_with.result (λ onward rest. moves_silent c.args.p.now (ways_of g.C.Cells.known g.C.Cells.may_read g.C.Cells.may_write g.C.Cells.rule) (Apply c.args.op c.args.place) (to_do Unwind old) (to_do Unwind mid) c.args.cells.now c.args.prints.now (course onward c.leave_with.new.machine)
    (standing c.leave_with.new.machine c.leave_with.new.cells c.leave_with.new.prints) (has_value c.args.p.now c.args.op c.args.place old mid c.in-Some.value is same) rest) c.leave_with.ensures
