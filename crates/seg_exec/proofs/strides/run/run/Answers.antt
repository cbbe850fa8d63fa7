use Rattle.seg_meaning.specs.Access.{ways_of}
use Rattle.seg_exec.specs.inner.steps.Reached.{standing}
use Rattle.seg_exec.proofs.steps.Reaching.{reaches_none}
use Rattle.seg_exec.proofs.strides.run.run.Goals as goal

pub units-init : goal.units-init
units-init g c = reaches_none c.args.p.now (ways_of g.C.Cells.known g.C.Cells.may_read g.C.Cells.may_write g.C.Cells.rule) (standing c.args.machine.now c.args.cells.now c.args.prints.now)
