use Rattle.std.proofs.Common.{◌+◌, ◌≤◌, cond}
use Rattle.std.specs.Prelude.{nat_eq}
use Rattle.seg_meaning.specs.Access.{ways_of}
use Rattle.seg_exec.specs.inner.steps.Reached.{Reaches, standing}
use Rattle.seg_exec.specs.inner.steps.Sizes.{size_of_work}
use Rattle.seg_exec.specs.inner.strides.Moving.{ahead, course}
use Rattle.seg_exec.proofs.strides.run.run.Given as goal

-- the run has come so far
abbrev pub invariant-units : goal.invariant-units
invariant-units g l =
    Reaches l.p (ways_of g.C.Cells.known g.C.Cells.may_read g.C.Cells.may_write g.C.Cells.rule) (standing l.fn.machine l.fn.cells l.fn.prints) (ahead (course l.next l.machine).block (standing l.machine l.cells l.prints))

abbrev pub decreases-units : goal.decreases-units
decreases-units g l = l.machine.fuel

abbrev pub invariant-loop-machine : goal.invariant-loop-machine
invariant-loop-machine g l =
    Reaches l.p (ways_of g.C.Cells.known g.C.Cells.may_read g.C.Cells.may_write g.C.Cells.rule) (standing l.fn.machine l.fn.cells l.fn.prints) (ahead (course l.next l.machine).block (standing l.machine l.cells l.prints))
    × (l.machine.fuel ≤ l.fuel)

-- the work that is left, until a unit of fuel is taken
abbrev pub decreases-loop-machine : goal.decreases-loop-machine
decreases-loop-machine g l = cond (nat_eq l.machine.fuel l.fuel) (size_of_work (ahead (course l.next l.machine).block (standing l.machine l.cells l.prints)).config.work + 1) 0
