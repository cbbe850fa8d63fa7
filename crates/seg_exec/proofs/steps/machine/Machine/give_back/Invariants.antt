use Rattle.std.proofs.Common.{◌≡◌, length}
use Rattle.seg_exec.specs.inner.steps.Continuations.{with_operand}
use Rattle.seg_exec.specs.inner.steps.Steps.{returned}
use Rattle.seg_exec.specs.inner.steps.Views.{config_of}
use Rattle.seg_exec.proofs.steps.machine.Machine.give_back.Given as goal

-- what is left of the work comes to the same
abbrev pub invariant-frames : goal.invariant-frames
invariant-frames l =
    returned (config_of l.self).work (with_operand l.initial.value (config_of l.self))
    ≡ returned (config_of l.initial.self).work (with_operand l.initial.value (config_of l.initial.self))

abbrev pub decreases-frames : goal.decreases-frames
decreases-frames l = length l.self.work
