use Rattle.std.proofs.Common.{◌+◌, List, drop, ap}
use Rattle.twe_program.specs.declared.stmt.Arm.{Arm}
use Rattle.twe_program.specs.inner.StatementView.{arms_of}
use Rattle.seg_meaning.specs.Access.{ways_of}
use Rattle.seg_exec.specs.inner.steps.Continuations.{Choose, Chosen, Evaluate, to_do}
use Rattle.seg_exec.specs.inner.steps.Reached.{standing}
use Rattle.seg_exec.specs.inner.steps.Steps.{choosing}
use Rattle.seg_exec.specs.inner.steps.Views.{config_of}
use Rattle.seg_exec.specs.inner.strides.Moving.{course}
use Rattle.seg_exec.proofs.strides.GoingOn.{next_is}
use Rattle.seg_exec.specs.inner.strides.Strides.{doing}
use Rattle.seg_exec.proofs.strides.Moving.{moves_carried, moves_silent}
use Rattle.seg_exec.proofs.strides.Performing.{carries_step, may_silent}
use Rattle.seg_meaning.proofs.Results.{if_ok_map}
use Rattle.seg_exec.proofs.strides.choose.choose.Goals as goal

pub evaluate_then-requires : goal.evaluate_then-requires
evaluate_then-requires g c =
    may_silent c.args.p.now (ways_of g.C.Cells.known g.C.Cells.may_read g.C.Cells.may_write g.C.Cells.rule) (Choose c.args.block (arms_of (drop c.args.block c.args.arms.now) c.args.last.now)) (config_of c.args.machine.now)
    (to_do (Evaluate c.index-arms-block.result.condition) (to_do (Chosen c.args.block (c.args.block + 1) c.index-arms-block.result.body (arms_of (drop (c.args.block + 1) c.args.arms.now) c.args.last.now)) (config_of c.args.machine.now))) c.args.cells.now c.args.prints.now
    (ap (λ (l : List Arm). choosing c.args.block (arms_of l c.args.last.now) (config_of c.args.machine.now)) (next_is c.args.arms.now c.args.block c.index-arms-block.result c.if-block-arms.true c.index-arms-block.is)) c.requires

pub returns-then-block-arms : goal.returns-then-block-arms
returns-then-block-arms g c =
    if_ok_map c.evaluate_then.result (λ onward rest. moves_silent c.args.p.now (ways_of g.C.Cells.known g.C.Cells.may_read g.C.Cells.may_write g.C.Cells.rule) (Choose c.args.block (arms_of (drop c.args.block c.args.arms.now) c.args.last.now)) (config_of c.args.machine.now)
    (to_do (Evaluate c.index-arms-block.result.condition) (to_do (Chosen c.args.block (c.args.block + 1) c.index-arms-block.result.body (arms_of (drop (c.args.block + 1) c.args.arms.now) c.args.last.now)) (config_of c.args.machine.now))) c.args.cells.now c.args.prints.now (course onward c.evaluate_then.new.machine)
    (standing c.evaluate_then.new.machine c.evaluate_then.new.cells c.evaluate_then.new.prints)
    (ap (λ (l : List Arm). choosing c.args.block (arms_of l c.args.last.now) (config_of c.args.machine.now)) (next_is c.args.arms.now c.args.block c.index-arms-block.result c.if-block-arms.true c.index-arms-block.is)) rest) c.evaluate_then.ensures

pub returns : goal.returns
returns g c =
    let ways = ways_of g.C.Cells.known g.C.Cells.may_read g.C.Cells.may_write g.C.Cells.rule in
    let old = config_of c.args.machine.now in
    let before = doing (Choose c.args.block (arms_of (drop c.args.block c.args.arms.now) c.args.last.now)) (standing c.args.machine.now c.args.cells.now c.args.prints.now) in
    let after = standing c.serve.new.machine c.serve.new.cells c.serve.new.prints in
    if_ok_map c.serve.result (λ onward served. moves_carried c.args.p.now ways before after (course onward c.serve.new.machine) served.1
    (carries_step c.args.p.now ways (Choose c.args.block (arms_of (drop c.args.block c.args.arms.now) c.args.last.now)) old (config_of c.choose.new.self) c.args.cells.now c.args.prints.now
    c.in_ok-request.request (course onward c.serve.new.machine).ending after c.in_ok-request.ensures served.0)) c.serve.ensures
