use Rattle.std.proofs.Common.{◌≡◌, ◌++◌, length}
use Rattle.seg_exec.specs.inner.steps.Calls.{calls_of}
use Rattle.seg_exec.proofs.steps.frames.Frames.into_calls.Given as goal

-- with those of the frames that are left, the calls are all
abbrev pub invariant-frames : goal.invariant-frames
invariant-frames l = l.calls ++ calls_of l.items ≡ calls_of l.initial.items

abbrev pub decreases-frames : goal.decreases-frames
decreases-frames l = length l.items
