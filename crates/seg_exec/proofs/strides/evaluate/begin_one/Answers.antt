use Rattle.std.proofs.Common.{[], ap, sym, ◌∙◌}
use Rattle.twe_program.specs.Expression.{Expression}
use Rattle.twe_program.specs.inner.ExpressionView.{expression_of}
use Rattle.seg_exec.specs.declared.steps.continuation.Goal.TheVariants.{Enter}
use Rattle.seg_meaning.specs.Access.{ways_of}
use Rattle.seg_exec.specs.inner.steps.Continuations.{Evaluate, Gather, to_do}
use Rattle.seg_exec.specs.inner.steps.Reached.{standing}
use Rattle.seg_exec.specs.inner.steps.Steps.{evaluated}
use Rattle.seg_exec.specs.inner.steps.Views.{config_of}
use Rattle.seg_exec.specs.inner.strides.Strides.{doing}
use Rattle.seg_exec.specs.inner.strides.Moving.{course}
use Rattle.seg_exec.proofs.strides.Moving.{moves_carried, moves_silent}
use Rattle.seg_exec.proofs.strides.Performing.{carries_step, may_request, may_silent}
use Rattle.seg_meaning.proofs.Results.{if_ok_map}
use Rattle.seg_exec.proofs.strides.evaluate.begin_one.Goals as goal

pub call-requires : goal.call-requires
call-requires g c =
    may_silent c.args.p.now (ways_of g.C.Cells.known g.C.Cells.may_read g.C.Cells.may_write g.C.Cells.rule) (Evaluate c.args.expr.now) (config_of c.args.machine.now) (to_do (Gather [] c.in-Call.args (Enter c.in-Call.method c.in-Call.place)) (config_of c.args.machine.now)) c.args.cells.now c.args.prints.now
    (ap (λ (e : Expression). evaluated c.args.p.now e (config_of c.args.machine.now)) (sym c.expr.view_is ∙ ap expression_of c.in-Call.is)) c.requires

pub returns-in-Call : goal.returns-in-Call
returns-in-Call g c =
    if_ok_map c.call.result (λ onward rest. moves_silent c.args.p.now (ways_of g.C.Cells.known g.C.Cells.may_read g.C.Cells.may_write g.C.Cells.rule) (Evaluate c.args.expr.now) (config_of c.args.machine.now) (to_do (Gather [] c.in-Call.args (Enter c.in-Call.method c.in-Call.place)) (config_of c.args.machine.now)) c.args.cells.now c.args.prints.now (course onward c.call.new.machine)
    (standing c.call.new.machine c.call.new.cells c.call.new.prints)
    (ap (λ (e : Expression). evaluated c.args.p.now e (config_of c.args.machine.now)) (sym c.expr.view_is ∙ ap expression_of c.in-Call.is)) rest) c.call.ensures

pub serve-requires : goal.serve-requires
serve-requires g c =
    may_request c.args.p.now (ways_of g.C.Cells.known g.C.Cells.may_read g.C.Cells.may_write g.C.Cells.rule) (Evaluate c.args.expr.now) (config_of c.args.machine.now) (config_of c.evaluate.new.self) c.args.cells.now c.args.prints.now
    c.in_ok-request-in_default.request c.in_ok-request-in_default.ensures c.requires

pub returns-in_ok-request-in_default : goal.returns-in_ok-request-in_default
returns-in_ok-request-in_default g c =
    let ways = ways_of g.C.Cells.known g.C.Cells.may_read g.C.Cells.may_write g.C.Cells.rule in
    let old = config_of c.args.machine.now in
    let before = doing (Evaluate c.args.expr.now) (standing c.args.machine.now c.args.cells.now c.args.prints.now) in
    let after = standing c.serve.new.machine c.serve.new.cells c.serve.new.prints in
    if_ok_map c.serve.result (λ onward served. moves_carried c.args.p.now ways before after (course onward c.serve.new.machine) served.1
    (carries_step c.args.p.now ways (Evaluate c.args.expr.now) old (config_of c.evaluate.new.self) c.args.cells.now c.args.prints.now
    c.in_ok-request-in_default.request (course onward c.serve.new.machine).ending after c.in_ok-request-in_default.ensures served.0)) c.serve.ensures
