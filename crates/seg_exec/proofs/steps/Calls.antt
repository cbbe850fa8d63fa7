-- The active calls among the continuation frames.
use Rattle.std.proofs.Common.{◌+◌, ◌≤◌, List, [], ◌∷◌, length, arith}
use Rattle.seg_meaning.specs.declared.active.ActiveCall.{ActiveCall}
use Rattle.seg_exec.specs.declared.steps.continuation.Continuation.{Continuation}
use Rattle.seg_exec.specs.declared.steps.continuation.Continuation.TheVariants.{Evaluate, Execute, Rest, Choose, UseValue, RightThenReturn, ApplyThenReturn, Gather, Take, Suspend, Leave}
use Rattle.seg_exec.specs.inner.steps.Calls.{calls_above, calls_of}

above_within : (work : Continuation) (calls : List ActiveCall) → length (calls_above work calls) ≤ length calls + 1
above_within (Evaluate e) calls = omega arith
above_within (Execute s) calls = omega arith
above_within (Rest block at stmts) calls = omega arith
above_within (Choose block arms last) calls = omega arith
above_within (UseValue then) calls = omega arith
above_within (RightThenReturn op right place) calls = omega arith
above_within (ApplyThenReturn op place) calls = omega arith
above_within (Gather g) calls = omega arith
above_within (Take g) calls = omega arith
above_within (Suspend s) calls = omega arith
above_within (Leave count call) calls = omega arith

-- no more calls are active than there are frames
pub calls_within : (frames : List Continuation) → length (calls_of frames) ≤ length frames
calls_within [] = omega arith
calls_within (work ∷ others) = omega (arith, above_within work (calls_of others), calls_within others)
