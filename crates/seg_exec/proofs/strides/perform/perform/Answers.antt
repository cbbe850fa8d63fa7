use Rattle.std.proofs.Common.{sym, subst}
use Rattle.seg_exec.specs.declared.steps.continuation.Continuation.{Continuation as Held}
use Rattle.seg_exec.specs.declared.steps.continuation.Continuation.TheVariants as held
use Rattle.seg_meaning.specs.Access.{ways_of}
use Rattle.seg_exec.specs.inner.steps.Bodies.{last_of}
use Rattle.seg_exec.specs.inner.steps.Continuations.{Leave, Suspend}
use Rattle.seg_exec.specs.inner.steps.Reached.{MayRequest, standing, standing_with}
use Rattle.seg_exec.specs.inner.steps.Steps.{Step}
use Rattle.seg_exec.specs.inner.steps.Views.{config_of, config_under}
use Rattle.seg_exec.specs.inner.strides.Moving.{Moves, course}
use Rattle.seg_exec.specs.inner.strides.Strides.{doing}
use Rattle.seg_exec.proofs.strides.Moving.{moves_carried}
use Rattle.seg_exec.proofs.strides.Performing.{carries_step, placed}
use Rattle.seg_meaning.proofs.Results.{if_ok_map}
use Rattle.seg_exec.proofs.strides.perform.perform.Goals as goal

pub returns-in_ok-request-in-Suspend : goal.returns-in_ok-request-in-Suspend
returns-in_ok-request-in-Suspend g c =
    let ways = ways_of g.C.Cells.known g.C.Cells.may_read g.C.Cells.may_write g.C.Cells.rule in
    let stop = c.in-Suspend.stop in
    let before = doing (Suspend stop.operation stop.positions) (standing c.args.machine.now c.args.cells.now c.args.prints.now) in
    let after = standing c.serve.new.machine c.serve.new.cells c.serve.new.prints in
    if_ok_map c.serve.result (λ onward served. subst (λ (w : Held). Moves c.args.p.now (ways_of g.C.Cells.known g.C.Cells.may_read g.C.Cells.may_write g.C.Cells.rule)
    (standing_with w c.args.machine.now c.args.cells.now c.args.prints.now) (course onward c.serve.new.machine) after) (sym c.in-Suspend.is)
    (moves_carried c.args.p.now ways before after (course onward c.serve.new.machine) served.1
    (carries_step c.args.p.now ways (Suspend stop.operation stop.positions) (config_of c.args.machine.now) (config_of c.suspend_on.new.self) c.args.cells.now c.args.prints.now
    c.in_ok-request-in-Suspend.request (course onward c.serve.new.machine).ending after c.in_ok-request-in-Suspend.ensures served.0))) c.serve.ensures

pub serve-requires-in-Leave : goal.serve-requires-in-Leave
serve-requires-in-Leave g c =
    subst (λ (s : Step). MayRequest (ways_of g.C.Cells.known g.C.Cells.may_read g.C.Cells.may_write g.C.Cells.rule) c.args.cells.now s.0) (sym (c.in_ok-request-in-Leave.ensures c.in-Leave.call)) tt

pub returns-in_ok-request-in-Leave : goal.returns-in_ok-request-in-Leave
returns-in_ok-request-in-Leave g c =
    let ways = ways_of g.C.Cells.known g.C.Cells.may_read g.C.Cells.may_write g.C.Cells.rule in
    let count = c.in-Leave.count in
    let task = Leave (last_of count c.args.machine.now.vars.callers) in
    let old = config_under (held.Leave count c.in-Leave.call) c.args.machine.now in
    let before = doing task (placed old c.args.cells.now c.args.prints.now) in
    let after = standing c.serve-in-Leave.new.machine c.serve-in-Leave.new.cells c.serve-in-Leave.new.prints in
    if_ok_map c.serve-in-Leave.result (λ onward served. subst (λ (w : Held). Moves c.args.p.now (ways_of g.C.Cells.known g.C.Cells.may_read g.C.Cells.may_write g.C.Cells.rule)
    (standing_with w c.args.machine.now c.args.cells.now c.args.prints.now) (course onward c.serve-in-Leave.new.machine) after) (sym c.in-Leave.is)
    (moves_carried c.args.p.now ways before after (course onward c.serve-in-Leave.new.machine) served.1
    (carries_step c.args.p.now ways task old (config_of c.leave.new.self) c.args.cells.now c.args.prints.now
    c.in_ok-request-in-Leave.request (course onward c.serve-in-Leave.new.machine).ending after (c.in_ok-request-in-Leave.ensures c.in-Leave.call) served.0))) c.serve-in-Leave.ensures
