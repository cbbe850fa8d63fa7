use Rattle.std.proofs.Common.{drop, length, ◌-◌, ◌≤◌}
use Rattle.twe_program.specs.Expression.{arguments_of}
use Rattle.seg_meaning.specs.Access.{ways_of}
use Rattle.seg_exec.specs.inner.strides.Taking.{TakesUpTo}
use Rattle.seg_exec.proofs.strides.arguments.evaluate_plain.Given as goal

-- the arguments before the next one have values
abbrev pub invariant-loop-next : goal.invariant-loop-next
invariant-loop-next g l =
    TakesUpTo l.p (ways_of g.C.Cells.known g.C.Cells.may_read g.C.Cells.may_write g.C.Cells.rule) l.count (arguments_of l.args) l.fn.machine l.fn.cells (arguments_of (drop l.next l.args)) l.machine l.cells
    × (l.next ≤ length l.args) × (l.count ≤ length l.machine.vars.active)

abbrev pub decreases-loop-next : goal.decreases-loop-next
decreases-loop-next g l = length l.args - l.next
