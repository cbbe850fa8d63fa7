use Rattle.std.proofs.Common.{◌≡◌, length}
use Rattle.twe_program.specs.Statement.{statements_of}
use Rattle.seg_exec.specs.inner.steps.Unfolded.{with_unfolded}
use Rattle.seg_exec.specs.inner.steps.Views.{config_of}
use Rattle.seg_exec.proofs.steps.machine.Machine.unfold.Given as goal

-- what is still to be put onto the work makes it the whole
abbrev pub invariant-positions : goal.invariant-positions
invariant-positions l =
    with_unfolded (statements_of l.block) l.rest (config_of l.self) ≡ with_unfolded (statements_of l.stmts) l.positions (config_of l.initial.self)

abbrev pub decreases-positions : goal.decreases-positions
decreases-positions l = length l.rest
