use Rattle.std.proofs.Common.{ap}
use Rattle.seg_exec.specs.inner.steps.Steps.{on}
use Rattle.seg_exec.proofs.steps.machine.Machine.leave.Goals as goal

pub returns : goal.returns
returns c = λ call. ap on (c.in_ok-back.ensures call)
