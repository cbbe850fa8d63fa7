use Rattle.seg_meaning.specs.Access.{ways_of}
use Rattle.seg_exec.specs.inner.steps.Reached.{standing}
use Rattle.seg_exec.specs.inner.strides.Strides.{Nears}
use Rattle.seg_exec.specs.inner.strides.Turning.{looping}
use Rattle.seg_exec.proofs.strides.turn.turn.Given as goal

-- the loop has come to its condition again
abbrev pub invariant-turns : goal.invariant-turns
invariant-turns g l =
    Nears l.p (ways_of g.C.Cells.known g.C.Cells.may_read g.C.Cells.may_write g.C.Cells.rule) (looping l.condition l.again l.body l.place (standing l.fn.machine l.fn.cells l.fn.prints)) (looping l.condition l.again l.body l.place (standing l.machine l.cells l.prints))

abbrev pub decreases-turns : goal.decreases-turns
decreases-turns g l = l.machine.fuel
