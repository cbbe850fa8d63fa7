use Rattle.std.proofs.Common.{length, ◌-◌}
use Rattle.seg_meaning.specs.Access.{ways_of}
use Rattle.seg_exec.specs.inner.strides.Picking.{ComesTo}
use Rattle.seg_exec.proofs.strides.pick.pick.Given as goal

-- the arms before the next one are tried
abbrev pub invariant-loop-next : goal.invariant-loop-next
invariant-loop-next g l = ComesTo l.p (ways_of g.C.Cells.known g.C.Cells.may_read g.C.Cells.may_write g.C.Cells.rule) l.arms l.last l.vars l.fn.cells l.next l.cells

abbrev pub decreases-loop-next : goal.decreases-loop-next
decreases-loop-next g l = length l.arms - l.next
