use Rattle.seg_meaning.specs.Access.{ways_of}
use Rattle.seg_exec.specs.inner.steps.Reached.{standing}
use Rattle.seg_exec.specs.inner.steps.Views.{config_of, use_of}
use Rattle.seg_exec.specs.inner.strides.Strides.{doing}
use Rattle.seg_exec.specs.inner.strides.Moving.{course}
use Rattle.seg_exec.proofs.strides.Moving.{moves_carried}
use Rattle.seg_exec.proofs.strides.Performing.{carries_step, may_request}
use Rattle.seg_meaning.proofs.Results.{if_ok_map}
use Rattle.seg_exec.proofs.strides.serve.use_now.Goals as goal

pub serve-requires : goal.serve-requires
serve-requires g c =
    may_request c.args.p.now (ways_of g.C.Cells.known g.C.Cells.may_read g.C.Cells.may_write g.C.Cells.rule) (use_of c.args.then.now) (config_of c.args.machine.now) (config_of c.use_value.new.self) c.args.cells.now c.args.prints.now
    c.in_ok-request.request c.in_ok-request.ensures c.requires

pub returns : goal.returns
returns g c =
    let ways = ways_of g.C.Cells.known g.C.Cells.may_read g.C.Cells.may_write g.C.Cells.rule in
    let old = config_of c.args.machine.now in
    let before = doing (use_of c.args.then.now) (standing c.args.machine.now c.args.cells.now c.args.prints.now) in
    let after = standing c.serve.new.machine c.serve.new.cells c.serve.new.prints in
    if_ok_map c.serve.result (λ onward served. moves_carried c.args.p.now ways before after (course onward c.serve.new.machine) served.1
    (carries_step c.args.p.now ways (use_of c.args.then.now) old (config_of c.use_value.new.self) c.args.cells.now c.args.prints.now
    c.in_ok-request.request (course onward c.serve.new.machine).ending after c.in_ok-request.ensures served.0)) c.serve.ensures
