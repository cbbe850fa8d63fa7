use Rattle.std.proofs.Common.{◌≡◌, ap, rules, sym, ◌∙◌}
use Rattle.twe_program.specs.Expression.{Expression}
use Rattle.twe_program.specs.inner.ExpressionView.{expression_of}
use Rattle.seg_meaning.specs.Access.{ways_of}
use Rattle.seg_exec.specs.inner.steps.Continuations.{Config, Evaluate, Right, to_do}
use Rattle.seg_exec.specs.inner.steps.Reached.{standing}
use Rattle.seg_exec.specs.inner.steps.Steps.{evaluated, on}
use Rattle.seg_exec.specs.inner.steps.Views.{config_of}
use Rattle.seg_exec.specs.inner.strides.Moving.{course}
use Rattle.seg_exec.proofs.strides.Moving.{moves_silent}
use Rattle.seg_exec.proofs.strides.Performing.{may_silent}
use Rattle.seg_meaning.proofs.Results.{if_ok_map}
use Rattle.seg_exec.proofs.strides.evaluate.begin.Goals as goal

pub operand-requires : goal.operand-requires
operand-requires g c =
    let old = config_of c.args.machine.now in
    let left : c.deref-in-Bin.result.now ≡ c.in-Bin.left.value = search rules in
    let right : c.deref.result.now ≡ c.in-Bin.right.value = search rules in
    let same : config_of c.push.new.self ≡ to_do (Right c.in-Bin.op c.in-Bin.right.value c.in-Bin.place) old = c.in_ok-push.ensures ∙ ap (λ (r : Expression). to_do (Right c.in-Bin.op r c.in-Bin.place) old) right in
    let is : evaluated c.args.p.now c.args.expr.now old ≡ on (to_do (Evaluate c.deref-in-Bin.result.now) (config_of c.push.new.self)) =
    ap (λ (e : Expression). evaluated c.args.p.now e old) (sym c.expr.view_is ∙ ap expression_of c.in-Bin.is)
    ∙ ap (λ (l : Expression). on (to_do (Evaluate l) (to_do (Right c.in-Bin.op c.in-Bin.right.value c.in-Bin.place) old))) (sym left)
    ∙ ap (λ (config : Config). on (to_do (Evaluate c.deref-in-Bin.result.now) config)) (sym same)
    in
    may_silent c.args.p.now (ways_of g.C.Cells.known g.C.Cells.may_read g.C.Cells.may_write g.C.Cells.rule) (Evaluate c.args.expr.now) old (to_do (Evaluate c.deref-in-Bin.result.now) (config_of c.push.new.self)) c.args.cells.now c.args.prints.now is c.requires

pub returns-in-Bin : goal.returns-in-Bin
returns-in-Bin g c =
    let old = config_of c.args.machine.now in
    let left : c.deref-in-Bin.result.now ≡ c.in-Bin.left.value = search rules in
    let right : c.deref.result.now ≡ c.in-Bin.right.value = search rules in
    let same : config_of c.push.new.self ≡ to_do (Right c.in-Bin.op c.in-Bin.right.value c.in-Bin.place) old = c.in_ok-push.ensures ∙ ap (λ (r : Expression). to_do (Right c.in-Bin.op r c.in-Bin.place) old) right in
    let is : evaluated c.args.p.now c.args.expr.now old ≡ on (to_do (Evaluate c.deref-in-Bin.result.now) (config_of c.push.new.self)) =
    ap (λ (e : Expression). evaluated c.args.p.now e old) (sym c.expr.view_is ∙ ap expression_of c.in-Bin.is)
    ∙ ap (λ (l : Expression). on (to_do (Evaluate l) (to_do (Right c.in-Bin.op c.in-Bin.right.value c.in-Bin.place) old))) (sym left)
    ∙ ap (λ (config : Config). on (to_do (Evaluate c.deref-in-Bin.result.now) config)) (sym same)
    in
    if_ok_map c.operand.result (λ onward rest. moves_silent c.args.p.now (ways_of g.C.Cells.known g.C.Cells.may_read g.C.Cells.may_write g.C.Cells.rule) (Evaluate c.args.expr.now) old (to_do (Evaluate c.deref-in-Bin.result.now) (config_of c.push.new.self)) c.args.cells.now c.args.prints.now (course onward c.operand.new.machine)
    (standing c.operand.new.machine c.operand.new.cells c.operand.new.prints) is rest) c.operand.ensures
