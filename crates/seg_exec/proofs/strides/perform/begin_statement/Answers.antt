use Rattle.std.proofs.Common.{List, drop, ap, sym, ◌∙◌}
use Rattle.twe_program.specs.Statement.{Statement, statements_of}
use Rattle.seg_meaning.specs.Access.{ways_of}
use Rattle.seg_exec.specs.inner.steps.Continuations.{Config, Execute, Rest, to_do}
use Rattle.seg_exec.specs.inner.steps.Reached.{standing}
use Rattle.seg_exec.specs.inner.steps.Steps.{on, rested}
use Rattle.seg_exec.specs.inner.steps.Views.{config_of}
use Rattle.seg_exec.specs.inner.strides.Moving.{course}
use Rattle.seg_exec.proofs.strides.GoingOn.{next_is}
use Rattle.seg_exec.proofs.strides.Moving.{moves_silent}
use Rattle.seg_exec.proofs.strides.Performing.{may_silent}
use Rattle.seg_meaning.proofs.Results.{if_ok_map}
use Rattle.seg_exec.proofs.strides.perform.begin_statement.Goals as goal

pub begin_execution-requires : goal.begin_execution-requires
begin_execution-requires g c =
    let old = config_of c.args.machine.now in
    let is = ap (λ (l : List Statement). rested c.args.block c.args.at (statements_of l) old) (next_is c.args.stmts.now c.args.at c.index-stmts-at.result c.requires.within c.index-stmts-at.is) in
    may_silent c.args.p.now (ways_of g.C.Cells.known g.C.Cells.may_read g.C.Cells.may_write g.C.Cells.rule) (Rest c.args.block c.args.at (statements_of (drop c.args.at c.args.stmts.now))) old (to_do (Execute c.index-stmts-at.result) (config_of c.push_rest.new.self)) c.args.cells.now c.args.prints.now
    (is ∙ ap (λ (config : Config). on (to_do (Execute c.index-stmts-at.result) config)) (sym c.in_ok-push_rest.ensures)) c.requires.may

pub returns : goal.returns
returns g c =
    let old = config_of c.args.machine.now in
    let is = ap (λ (l : List Statement). rested c.args.block c.args.at (statements_of l) old) (next_is c.args.stmts.now c.args.at c.index-stmts-at.result c.requires.within c.index-stmts-at.is) in
    if_ok_map c.begin_execution.result (λ onward rest. moves_silent c.args.p.now (ways_of g.C.Cells.known g.C.Cells.may_read g.C.Cells.may_write g.C.Cells.rule) (Rest c.args.block c.args.at (statements_of (drop c.args.at c.args.stmts.now))) old (to_do (Execute c.index-stmts-at.result) (config_of c.push_rest.new.self)) c.args.cells.now c.args.prints.now (course onward c.begin_execution.new.machine)
    (standing c.begin_execution.new.machine c.begin_execution.new.cells c.begin_execution.new.prints)
    (is ∙ ap (λ (config : Config). on (to_do (Execute c.index-stmts-at.result) config)) (sym c.in_ok-push_rest.ensures)) rest) c.begin_execution.ensures
