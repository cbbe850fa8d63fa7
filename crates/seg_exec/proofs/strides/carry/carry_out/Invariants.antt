use Rattle.std.proofs.Common.{◌≡◌, ◌≤◌, length, ◌-◌}
use Rattle.seg_meaning.specs.Access.{ways_of}
use Rattle.seg_exec.specs.inner.strides.Carrying.{ComesBefore}
use Rattle.seg_exec.proofs.strides.carry.carry_out.Given as goal

-- the statements before the next one are done
abbrev pub invariant-loop-next : goal.invariant-loop-next
invariant-loop-next g l =
    ComesBefore l.p (ways_of g.C.Cells.known g.C.Cells.may_read g.C.Cells.may_write g.C.Cells.rule) l.at l.stmts l.fn.vars.active l.fn.cells l.next l.vars.active l.cells
    × (l.vars.callers ≡ l.fn.vars.callers) × (l.at ≤ l.next)

abbrev pub decreases-loop-next : goal.decreases-loop-next
decreases-loop-next g l = length l.stmts - l.next
