use Rattle.seg_meaning.specs.Access.{ways_of}
use Rattle.seg_exec.specs.inner.steps.Reached.{standing}
use Rattle.seg_exec.specs.inner.strides.Moving.{course}
use Rattle.seg_exec.specs.inner.strides.Turning.{looping}
use Rattle.seg_exec.proofs.strides.Moving.{near_moves}
use Rattle.seg_exec.proofs.strides.Strides.{may_near, nears_more, nears_none}
use Rattle.seg_exec.proofs.strides.turn.turn.Goals as goal

pub turns-init : goal.turns-init
turns-init g c = nears_none c.args.p.now (ways_of g.C.Cells.known g.C.Cells.may_read g.C.Cells.may_write g.C.Cells.rule) (looping c.args.condition.now c.args.again.now c.args.body.now c.args.place (standing c.args.machine.now c.args.cells.now c.args.prints.now))

pub make_turn-requires-clause-may : goal.make_turn-requires-clause-may
make_turn-requires-clause-may g c =
    may_near c.args.p.now (ways_of g.C.Cells.known g.C.Cells.may_read g.C.Cells.may_write g.C.Cells.rule) _ _ c.requires.may c.turns.invariant

pub turns-preserved : goal.turns-preserved
turns-preserved g c =
    let from = looping c.args.condition.now c.args.again.now c.args.body.now c.args.place (standing c.args.machine.now c.args.cells.now c.args.prints.now) in
    let now = looping c.args.condition.now c.args.again.now c.args.body.now c.args.place (standing c.turns.machine c.turns.cells c.turns.prints) in
    let after = looping c.args.condition.now c.args.again.now c.args.body.now c.args.place (standing c.make_turn.new.machine c.make_turn.new.cells c.make_turn.new.prints) in
    nears_more c.args.p.now (ways_of g.C.Cells.known g.C.Cells.may_read g.C.Cells.may_write g.C.Cells.rule) from now after c.turns.invariant (rw c.in_default.is at c.in_ok-next.ensures).0

pub turns-smaller : goal.turns-smaller
turns-smaller g c = (rw c.in_default.is at c.in_ok-next.ensures).1

pub returns-in-Some : goal.returns-in-Some
returns-in-Some g c =
    let from = looping c.args.condition.now c.args.again.now c.args.body.now c.args.place (standing c.args.machine.now c.args.cells.now c.args.prints.now) in
    let now = looping c.args.condition.now c.args.again.now c.args.body.now c.args.place (standing c.turns.machine c.turns.cells c.turns.prints) in
    let after = standing c.make_turn.new.machine c.make_turn.new.cells c.make_turn.new.prints in
    near_moves c.args.p.now (ways_of g.C.Cells.known g.C.Cells.may_read g.C.Cells.may_write g.C.Cells.rule) from now after (course c.in-Some.onward c.make_turn.new.machine) c.turns.invariant (rw c.in-Some.is at c.in_ok-next.ensures)
