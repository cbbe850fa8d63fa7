use Rattle.std.proofs.Common.{◌≡◌, None, Some, rules}
use Rattle.seg_meaning.specs.Access.{ways_of}
use Rattle.seg_meaning.specs.Arithmetic.{decided, is_true}
use Rattle.seg_exec.specs.inner.steps.Continuations.{Apply, Evaluate, Right, to_do, top, with_operand, without_operand}
use Rattle.seg_exec.specs.inner.steps.Reached.{standing}
use Rattle.seg_exec.specs.inner.strides.Strides.{doing}
use Rattle.seg_exec.specs.inner.steps.Views.{config_of}
use Rattle.seg_exec.specs.inner.strides.Moving.{course}
use Rattle.seg_exec.proofs.strides.Moving.{moves_silent}
use Rattle.seg_exec.proofs.strides.Performing.{left_decides, may_silent, right_counts}
use Rattle.seg_exec.proofs.strides.Strides.{silent}
use Rattle.seg_meaning.proofs.Results.{if_ok_map}
use Rattle.seg_exec.proofs.strides.evaluate.right_of.Goals as goal

pub evaluate_then-requires : goal.evaluate_then-requires
evaluate_then-requires g c =
    let old = config_of c.args.machine.now in
    let mid = config_of c.push_operand-in-None.new.self in
    let is : decided c.args.op (is_true (top old.operands)) ≡ None = search rules in
    let same : mid ≡ with_operand (top old.operands) (without_operand old) = search rules in
    may_silent c.args.p.now (ways_of g.C.Cells.known g.C.Cells.may_read g.C.Cells.may_write g.C.Cells.rule) (Right c.args.op c.args.right.now c.args.place) old (to_do (Evaluate c.args.right.now) (to_do (Apply c.args.op c.args.place) mid)) c.args.cells.now c.args.prints.now
    (right_counts c.args.p.now c.args.op c.args.right.now c.args.place old mid is same) c.requires

pub returns-in_ok-push_operand-in-Some : goal.returns-in_ok-push_operand-in-Some
returns-in_ok-push_operand-in-Some g c =
    let old = config_of c.args.machine.now in
    let mid = config_of c.push_operand.new.self in
    let is : decided c.args.op (is_true (top old.operands)) ≡ Some c.in-Some.value = search rules in
    let same : mid ≡ with_operand c.in-Some.value (without_operand old) = search rules in
    silent c.args.p.now (ways_of g.C.Cells.known g.C.Cells.may_read g.C.Cells.may_write g.C.Cells.rule) (doing (Right c.args.op c.args.right.now c.args.place) (standing c.args.machine.now c.args.cells.now c.args.prints.now)) mid
    (left_decides c.args.p.now c.args.op c.args.right.now c.args.place old mid c.in-Some.value is same)

pub returns-in_ok-push_operand-in-None : goal.returns-in_ok-push_operand-in-None
returns-in_ok-push_operand-in-None g c =
    let old = config_of c.args.machine.now in
    let mid = config_of c.push_operand-in-None.new.self in
    let is : decided c.args.op (is_true (top old.operands)) ≡ None = search rules in
    let same : mid ≡ with_operand (top old.operands) (without_operand old) = search rules in
    if_ok_map c.evaluate_then.result (λ onward rest. moves_silent c.args.p.now (ways_of g.C.Cells.known g.C.Cells.may_read g.C.Cells.may_write g.C.Cells.rule) (Right c.args.op c.args.right.now c.args.place) old (to_do (Evaluate c.args.right.now) (to_do (Apply c.args.op c.args.place) mid)) c.args.cells.now c.args.prints.now (course onward c.evaluate_then.new.machine)
    (standing c.evaluate_then.new.machine c.evaluate_then.new.cells c.evaluate_then.new.prints) (right_counts c.args.p.now c.args.op c.args.right.now c.args.place old mid is same) rest) c.evaluate_then.ensures
