use Rattle.std.proofs.Common.{ℤ, List, drop, ap, ◌∙◌}
use Rattle.twe_program.specs.Expression.{argument, arguments_of}
use Rattle.seg_meaning.specs.Access.{ways_of}
use Rattle.seg_exec.specs.inner.steps.Continuations.{Config, Gather}
use Rattle.seg_exec.specs.inner.steps.Reached.{standing}
use Rattle.seg_exec.specs.inner.steps.Steps.{gathering}
use Rattle.seg_exec.specs.inner.steps.Views.{config_before, config_of}
use Rattle.seg_exec.specs.inner.strides.Moving.{course, gathering_from}
use Rattle.seg_exec.proofs.steps.Callers.{with_first}
use Rattle.seg_exec.proofs.strides.Moving.{moves_carried}
use Rattle.seg_exec.proofs.strides.Performing.{carries_step}
use Rattle.seg_meaning.proofs.Results.{if_ok_map}
use Rattle.seg_exec.proofs.strides.gather.begin_argument.Goals as goal

pub returns : goal.returns
returns g c =
    let ways = ways_of g.C.Cells.known g.C.Cells.may_read g.C.Cells.may_write g.C.Cells.rule in
    let old = config_before c.args.count c.args.machine.now in
    let mid = config_of (record c.args.machine.now { vars = c.split.new.self }) in
    let taken = drop c.args.count c.args.machine.now.vars.active in
    let args = argument c.args.first.now (arguments_of c.args.others.now) in
    let before = gathering_from c.args.count args c.args.goal c.args.machine.now c.args.cells.now c.args.prints.now in
    let after = standing c.serve.new.machine c.serve.new.cells c.serve.new.prints in
    if_ok_map c.serve.result (λ onward served. moves_carried c.args.p.now ways before after (course onward c.serve.new.machine) served.1
    (carries_step c.args.p.now ways (Gather taken args c.args.goal) old (config_of c.argument.new.self) c.args.cells.now c.args.prints.now
    c.in_ok-request.request (course onward c.serve.new.machine).ending after
    (c.in_ok-request.ensures
    ∙ ap (λ (values : List ℤ). gathering c.args.p.now values args c.args.goal mid) c.in_ok-taken.ensures.taken
    ∙ ap (λ (config : Config). gathering c.args.p.now taken args c.args.goal config) (with_first c.args.machine.now c.args.count c.split.new.self c.in_ok-taken.ensures.rest)) served.0)) c.serve.ensures
