-- The active calls, as the continuation frames of the evaluator have them.
use Rattle.std.specs.Prelude.{List, [], ◌∷◌, Option, None, Some}
use Rattle.seg_meaning.specs.declared.active.ActiveCall.{ActiveCall}
use Rattle.seg_exec.specs.declared.steps.continuation.Continuation.{Continuation}
use Rattle.seg_exec.specs.declared.steps.continuation.Continuation.TheVariants.{Leave}

-- the calls that are active with a frame on top of those that have these calls: the frame that leaves a call has it
abbrev pub calls_above : Continuation → List ActiveCall → List ActiveCall
calls_above (Leave count call) calls = call ∷ calls
calls_above _ calls = calls

-- the active calls, the latest first
abbrev pub calls_of : List Continuation → List ActiveCall
calls_of [] = []
calls_of (work ∷ others) = calls_above work (calls_of others)

-- these calls, with the one before them that a frame leaves, if it leaves one
abbrev pub calls_with : Option ActiveCall → List ActiveCall → List ActiveCall
calls_with None calls = calls
calls_with (Some call) calls = call ∷ calls
