use Rattle.std.proofs.Common.{SFits, w32, ap, rules, ◌∙◌}
use Rattle.std.proofs.lemmas.Int.{to_z-of_z}
use Rattle.seg_meaning.specs.Access.{ways_of}
use Rattle.seg_exec.specs.inner.steps.Continuations.{with_operand}
use Rattle.seg_exec.specs.inner.steps.Views.{config_of}
use Rattle.seg_exec.proofs.strides.Performing.{carries_value}
use Rattle.seg_exec.proofs.strides.evaluate.evaluate_at_once.Goals as goal

pub returns-in_ok-push_operand-in-Ok : goal.returns-in_ok-push_operand-in-Ok
returns-in_ok-push_operand-in-Ok g c =
    let fits : SFits w32 c.in-Ok.value = search rules in
    carries_value c.args.p.now (ways_of g.C.Cells.known g.C.Cells.may_read g.C.Cells.may_write g.C.Cells.rule) c.args.expr.now c.as_slice.result.now (config_of c.args.machine.now) (config_of c.push_operand.new.self) c.args.cells.now c.value_of.new.cells c.args.prints.now
    c.in-Ok.value c.as_slice.ensures c.in-Ok.ensures (c.in_ok-push_operand-in-Ok.ensures ∙ ap (λ v. with_operand v (config_of c.args.machine.now)) (to_z-of_z w32 c.in-Ok.value fits))
