use Rattle.std.proofs.Common.{List, [], ap, sym, ◌∙◌}
use Rattle.seg_exec.specs.declared.steps.continuation.Continuation.{Continuation as Held}
use Rattle.seg_meaning.specs.Access.{ways_of}
use Rattle.seg_exec.specs.inner.steps.Calls.{calls_of}
use Rattle.seg_exec.specs.inner.steps.Views.{config_of, continuations_of}
use Rattle.seg_exec.proofs.strides.Performing.{returns_nothing}
use Rattle.seg_exec.proofs.strides.run.proceed.Goals as goal

pub returns-in-None : goal.returns-in-None
returns-in-None g c =
    let old = config_of c.args.machine.now in
    let callers = c.args.machine.now.vars.callers in
    let new = record old { work = continuations_of callers c.pop.new.self; calls = calls_of c.pop.new.self } in
    returns_nothing c.args.p.now (ways_of g.C.Cells.known g.C.Cells.may_read g.C.Cells.may_write g.C.Cells.rule) old new c.args.cells.now c.args.prints.now
    (ap (continuations_of callers) c.in-None.ensures.0)
    (ap (λ (work : List Held). record old { work = continuations_of callers work; calls = calls_of work }) c.in-None.ensures.1
    ∙ ap (λ (work : List Held). record old { work = []; calls = calls_of work }) (sym c.in-None.ensures.0))
