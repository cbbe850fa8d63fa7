use Rattle.std.proofs.Common.{length, ◌-◌}
use Rattle.seg_meaning.specs.Access.{ways_of}
use Rattle.seg_exec.specs.inner.steps.Reached.{standing}
use Rattle.seg_exec.specs.inner.strides.Strides.{Nears}
use Rattle.seg_exec.proofs.strides.GoingOn.{rest_at}
use Rattle.seg_exec.proofs.strides.perform.go_on.Given as goal

-- the statements before the next one are done
abbrev pub invariant-statements : goal.invariant-statements
invariant-statements g l =
    Nears l.p (ways_of g.C.Cells.known g.C.Cells.may_read g.C.Cells.may_write g.C.Cells.rule) (rest_at l.block l.at l.stmts (standing l.fn.machine l.fn.cells l.fn.prints)) (rest_at l.block l.next l.stmts (standing l.machine l.cells l.prints))

abbrev pub decreases-statements : goal.decreases-statements
decreases-statements g l = length l.stmts - l.next
