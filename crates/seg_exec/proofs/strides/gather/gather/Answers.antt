use Rattle.std.proofs.Common.{sym, subst}
use Rattle.twe_program.specs.Expression.{argument, arguments_of, no_more}
use Rattle.seg_exec.specs.declared.steps.request.Ending.{Ending}
use Rattle.seg_exec.specs.declared.strides.arguments.Evaluated.{Evaluated}
use Rattle.seg_meaning.specs.Access.{ways_of}
use Rattle.seg_exec.specs.inner.steps.Reached.{standing}
use Rattle.seg_exec.specs.inner.strides.Moving.{course, gathering_from}
use Rattle.seg_exec.specs.inner.strides.Strides.{Ends}
use Rattle.seg_exec.specs.inner.strides.Taking.{Takes}
use Rattle.seg_meaning.proofs.Results.{if_ok_map}
use Rattle.seg_exec.proofs.strides.Moving.{near_moves}
use Rattle.seg_exec.proofs.strides.Strides.{may_near}
use Rattle.seg_exec.proofs.strides.gather.gather.Goals as goal

pub use_arguments-requires-clause-may : goal.use_arguments-requires-clause-may
use_arguments-requires-clause-may g c =
    let ways = ways_of g.C.Cells.known g.C.Cells.may_read g.C.Cells.may_write g.C.Cells.rule in
    let from = gathering_from c.args.count (arguments_of c.args.args.now) c.args.goal c.args.machine.now c.args.cells.now c.args.prints.now in
    let now = gathering_from c.args.count no_more c.args.goal c.evaluate_plain.new.machine c.evaluate_plain.new.cells c.args.prints.now in
    let took = subst (λ (evaluated : Evaluated). Takes c.args.p.now (ways_of g.C.Cells.known g.C.Cells.may_read g.C.Cells.may_write g.C.Cells.rule) c.args.count c.args.args.now c.args.machine.now c.args.cells.now evaluated c.evaluate_plain.new.machine c.evaluate_plain.new.cells) c.in-All.is c.in_ok-evaluated.ensures in
    may_near c.args.p.now ways from now c.requires.may (took.1 c.args.goal c.args.prints.now)

pub begin_argument-requires-clause-may : goal.begin_argument-requires-clause-may
begin_argument-requires-clause-may g c =
    let ways = ways_of g.C.Cells.known g.C.Cells.may_read g.C.Cells.may_write g.C.Cells.rule in
    let from = gathering_from c.args.count (arguments_of c.args.args.now) c.args.goal c.args.machine.now c.args.cells.now c.args.prints.now in
    let now = gathering_from c.args.count (argument c.in-Left.first.now (arguments_of c.in-Left.others.now)) c.args.goal c.evaluate_plain.new.machine c.evaluate_plain.new.cells c.args.prints.now in
    let took = subst (λ (evaluated : Evaluated). Takes c.args.p.now (ways_of g.C.Cells.known g.C.Cells.may_read g.C.Cells.may_write g.C.Cells.rule) c.args.count c.args.args.now c.args.machine.now c.args.cells.now evaluated c.evaluate_plain.new.machine c.evaluate_plain.new.cells) c.in-Left.is c.in_ok-evaluated.ensures in
    may_near c.args.p.now ways from now c.requires.may (took.1 c.args.goal c.args.prints.now)

pub returns-in-All : goal.returns-in-All
returns-in-All g c =
    let ways = ways_of g.C.Cells.known g.C.Cells.may_read g.C.Cells.may_write g.C.Cells.rule in
    let from = gathering_from c.args.count (arguments_of c.args.args.now) c.args.goal c.args.machine.now c.args.cells.now c.args.prints.now in
    let now = gathering_from c.args.count no_more c.args.goal c.evaluate_plain.new.machine c.evaluate_plain.new.cells c.args.prints.now in
    let after = standing c.use_arguments.new.machine c.use_arguments.new.cells c.use_arguments.new.prints in
    let took = subst (λ (evaluated : Evaluated). Takes c.args.p.now (ways_of g.C.Cells.known g.C.Cells.may_read g.C.Cells.may_write g.C.Cells.rule) c.args.count c.args.args.now c.args.machine.now c.args.cells.now evaluated c.evaluate_plain.new.machine c.evaluate_plain.new.cells) c.in-All.is c.in_ok-evaluated.ensures in
    if_ok_map c.use_arguments.result (λ onward rest. near_moves c.args.p.now ways from now after (course onward c.use_arguments.new.machine) (took.1 c.args.goal c.args.prints.now) rest) c.use_arguments.ensures

pub returns-in-Left : goal.returns-in-Left
returns-in-Left g c =
    let ways = ways_of g.C.Cells.known g.C.Cells.may_read g.C.Cells.may_write g.C.Cells.rule in
    let from = gathering_from c.args.count (arguments_of c.args.args.now) c.args.goal c.args.machine.now c.args.cells.now c.args.prints.now in
    let now = gathering_from c.args.count (argument c.in-Left.first.now (arguments_of c.in-Left.others.now)) c.args.goal c.evaluate_plain.new.machine c.evaluate_plain.new.cells c.args.prints.now in
    let after = standing c.begin_argument.new.machine c.begin_argument.new.cells c.begin_argument.new.prints in
    let took = subst (λ (evaluated : Evaluated). Takes c.args.p.now (ways_of g.C.Cells.known g.C.Cells.may_read g.C.Cells.may_write g.C.Cells.rule) c.args.count c.args.args.now c.args.machine.now c.args.cells.now evaluated c.evaluate_plain.new.machine c.evaluate_plain.new.cells) c.in-Left.is c.in_ok-evaluated.ensures in
    if_ok_map c.begin_argument.result (λ onward rest. near_moves c.args.p.now ways from now after (course onward c.begin_argument.new.machine) (took.1 c.args.goal c.args.prints.now) rest) c.begin_argument.ensures

pub returns-in-Faulted : goal.returns-in-Faulted
returns-in-Faulted g c =
    let took = subst (λ (evaluated : Evaluated). Takes c.args.p.now (ways_of g.C.Cells.known g.C.Cells.may_read g.C.Cells.may_write g.C.Cells.rule) c.args.count c.args.args.now c.args.machine.now c.args.cells.now evaluated c.evaluate_plain.new.machine c.evaluate_plain.new.cells) c.in-Faulted.is c.in_ok-evaluated.ensures in
    subst (λ (e : Ending). Ends c.args.p.now (ways_of g.C.Cells.known g.C.Cells.may_read g.C.Cells.may_write g.C.Cells.rule)
    (gathering_from c.args.count (arguments_of c.args.args.now) c.args.goal c.args.machine.now c.args.cells.now c.args.prints.now) e (standing c.evaluate_plain.new.machine c.evaluate_plain.new.cells c.args.prints.now))
    (sym c.ending.ensures) (took c.args.goal c.args.prints.now)
