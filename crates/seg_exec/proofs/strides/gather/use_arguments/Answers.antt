use Rattle.std.proofs.Common.{◌≡◌, ℤ, List, [], drop, ap, sym, ◌∙◌}
use Rattle.std.specs.Prelude.{Option, option_copied, slice_get}
use Rattle.twe_program.specs.declared.program.Decl.{Decl}
use Rattle.twe_program.specs.Program.{Program}
use Rattle.twe_program.specs.Expression.{no_more}
use Rattle.seg_meaning.specs.declared.operation.Operation.TheVariants as operations
use Rattle.seg_exec.specs.declared.steps.continuation.Goal.{Goal}
use Rattle.seg_meaning.specs.Access.{ways_of}
use Rattle.seg_exec.specs.inner.steps.Continuations.{Config, Gather, Suspend, to_do}
use Rattle.seg_exec.specs.inner.steps.Reached.{standing}
use Rattle.seg_exec.specs.inner.steps.Steps.{asked_unit, entering, gathered, on}
use Rattle.seg_exec.specs.inner.steps.Views.{config_before, config_of}
use Rattle.seg_exec.specs.inner.strides.Moving.{course, gathering_from}
use Rattle.seg_exec.proofs.steps.Callers.{with_first}
use Rattle.seg_exec.proofs.strides.Moving.{moves_carried, moves_step}
use Rattle.seg_exec.proofs.strides.Performing.{carries_step}
use Rattle.seg_meaning.proofs.Results.{if_ok_map}
use Rattle.seg_exec.proofs.strides.gather.use_arguments.Goals as goal

pub returns-in-Enter : goal.returns-in-Enter
returns-in-Enter g c =
    let ways = ways_of g.C.Cells.known g.C.Cells.may_read g.C.Cells.may_write g.C.Cells.rule in
    let old = config_before c.args.count c.args.machine.now in
    let taken = drop c.args.count c.args.machine.now.vars.active in
    let before = gathering_from c.args.count no_more c.args.goal c.args.machine.now c.args.cells.now c.args.prints.now in
    let found : option_copied c.get.result ≡ slice_get c.args.p.now.methods c.in-Enter.method =
    c.get.ensures ∙ ap (λ (p : Program). slice_get p.methods c.in-Enter.method) c.p.view_is in
    if_ok_map c.enter.result (λ onward is. moves_step c.args.p.now ways before (course onward c.enter.new.machine) (config_of c.enter.new.machine)
    (ap (λ (for_what : Goal). gathered c.args.p.now taken for_what old) c.in-Enter.is
    ∙ ap (λ (decl : Option Decl). entering decl taken (record { method = c.in-Enter.method; place = c.in-Enter.place }) old) (sym found) ∙ sym is)) c.enter.ensures

pub returns-in_ok-request-in-Make : goal.returns-in_ok-request-in-Make
returns-in_ok-request-in-Make g c =
    let ways = ways_of g.C.Cells.known g.C.Cells.may_read g.C.Cells.may_write g.C.Cells.rule in
    let old = config_before c.args.count c.args.machine.now in
    let taken = drop c.args.count c.args.machine.now.vars.active in
    let before = gathering_from c.args.count no_more c.args.goal c.args.machine.now c.args.cells.now c.args.prints.now in
    let after = standing c.serve.new.machine c.serve.new.cells c.serve.new.prints in
    let future = c.in-Make.future in
    let task = c.in-Make.task in
    let spawned = c.in-Make.spawned in
    let place = c.in-Make.place in
    if_ok_map c.serve.result (λ onward served. moves_carried c.args.p.now ways before after (course onward c.serve.new.machine) served.1
    (carries_step c.args.p.now ways (Gather taken no_more c.args.goal) old (config_of c.suspend.new.self) c.args.cells.now c.args.prints.now
    c.in_ok-request-in-Make.request (course onward c.serve.new.machine).ending after
    (c.in_ok-request-in-Make.ensures
    ∙ ap (λ (args : List ℤ). asked_unit place (config_of (record c.args.machine.now { vars = c.split.new.self })) (λ c1. on (to_do (Suspend (operations.Make future task args spawned place) []) c1))) c.in_ok-args-in-Make.ensures.taken
    ∙ ap (λ (config : Config). asked_unit place config (λ c1. on (to_do (Suspend (operations.Make future task taken spawned place) []) c1))) (with_first c.args.machine.now c.args.count c.split.new.self c.in_ok-args-in-Make.ensures.rest)
    ∙ ap (λ (for_what : Goal). gathered c.args.p.now taken for_what old) (sym c.in-Make.is)) served.0)) c.serve.ensures
