-- The evaluator's continuation and state as the specification sees them.
use Rattle.std.specs.Prelude.{ℕ, ℤ, List, [], ◌∷◌, drop, take}
use Rattle.twe_program.specs.Expression.{arguments_of}
use Rattle.twe_program.specs.Statement.{statements_of}
use Rattle.twe_program.specs.inner.StatementView.{arms_of}
use Rattle.seg_meaning.specs.declared.active.ActiveCall.{ActiveCall}
use Rattle.seg_exec.specs.declared.steps.continuation.Continuation.{Continuation as Held}
use Rattle.seg_exec.specs.declared.steps.continuation.Continuation.TheVariants as held
use Rattle.seg_exec.specs.declared.steps.continuation.Recovered.{Recovered}
use Rattle.seg_exec.specs.declared.steps.continuation.Recovered.TheVariants as recovers
use Rattle.seg_exec.specs.declared.steps.continuation.ValueUse.{ValueUse}
use Rattle.seg_exec.specs.declared.steps.continuation.ValueUse.TheVariants as uses
use Rattle.seg_exec.specs.declared.steps.machine.Machine.{Machine}
use Rattle.seg_exec.specs.inner.steps.Continuations.{Continuation, Evaluate, Execute, Rest, Choose, Chosen, Turn, Gather, Take, Negate, Invert, Right, Apply, ReadElement, ReadGridElement, GiveVar, GiveCell, GiveElement, GiveGridElement, PrintValue, Discard, Unwind, Suspend, Leave, Config, to_do}
use Rattle.seg_exec.specs.inner.steps.Bodies.{before_last, last_of}
use Rattle.seg_exec.specs.inner.steps.Calls.{calls_above, calls_of}
use Rattle.seg_exec.specs.inner.steps.Steps.{Recovery, ToCaller, OfBlock, NoRecovery}

-- the continuation frame that uses a value
abbrev pub use_of : ValueUse → Continuation
use_of (uses.Chosen block next body arms last) = Chosen block next body.now (arms_of (drop next arms.now) last.now)
use_of (uses.Turn again body place) = Turn again.now body.now place
use_of uses.Negate = Negate
use_of uses.Invert = Invert
use_of (uses.Right op right place) = Right op right.now place
use_of (uses.Apply op place) = Apply op place
use_of (uses.ReadElement array place) = ReadElement array place
use_of (uses.ReadGridElement array place) = ReadGridElement array place
use_of (uses.GiveVar var) = GiveVar var
use_of (uses.GiveCell cell) = GiveCell cell
use_of (uses.GiveElement array place) = GiveElement array place
use_of (uses.GiveGridElement array place) = GiveGridElement array place
use_of (uses.PrintValue place) = PrintValue place
use_of uses.Discard = Discard
use_of uses.Unwind = Unwind

-- the first continuation frame that a frame of the evaluator stands for, over the variables of the callers
abbrev pub continuation_of : List ℤ → Held → Continuation
continuation_of callers (held.Evaluate e) = Evaluate e.now
continuation_of callers (held.Execute s) = Execute s.now
continuation_of callers (held.Rest block at stmts) = Rest block at (statements_of (drop at stmts.now))
continuation_of callers (held.Choose block arms last) = Choose block (arms_of (drop block arms.now) last.now)
continuation_of callers (held.UseValue then) = use_of then
continuation_of callers (held.RightThenReturn op right place) = Right op right.now place
continuation_of callers (held.ApplyThenReturn op place) = Apply op place
continuation_of callers (held.Gather g) = Gather g.value.taken (arguments_of g.value.args.now) g.value.goal
continuation_of callers (held.Take g) = Take g.value.taken (arguments_of g.value.args.now) g.value.goal
continuation_of callers (held.Suspend s) = Suspend s.operation s.positions
continuation_of callers (held.Leave count call) = Leave (last_of count callers)

-- these frames with what else a frame of the evaluator stands for, below its first frame: the return of the value from the body
abbrev pub returning_below : Held → List Continuation → List Continuation
returning_below (held.RightThenReturn op right place) others = Unwind ∷ others
returning_below (held.ApplyThenReturn op place) others = Unwind ∷ others
returning_below _ others = others

-- the variables of the callers that the frames below a frame return to
abbrev pub callers_below : Held → List ℤ → List ℤ
callers_below (held.Leave count call) callers = before_last count callers
callers_below _ callers = callers

-- all frames
abbrev pub continuations_of : List ℤ → List Held → List Continuation
continuations_of callers [] = []
continuations_of callers (work ∷ others) =
    continuation_of callers work ∷ returning_below work (continuations_of (callers_below work callers) others)

-- the state of a machine as a configuration
abbrev pub config_of : Machine → Config
config_of m = record {
  work = continuations_of m.vars.callers m.work;
  operands = m.operands;
  vars = m.vars.active;
  fuel = m.fuel;
  calls = calls_of m.work;
}

-- the same below the first continuation frame of a frame that was on top
abbrev pub config_under : Held → Machine → Config
config_under work m = record (config_of m) {
  work = returning_below work (continuations_of (callers_below work m.vars.callers) m.work);
  calls = calls_above work (calls_of m.work);
}

-- the same with the frame
abbrev pub config_with : Held → Machine → Config
config_with work m = to_do (continuation_of m.vars.callers work) (config_under work m)

-- the state of a machine whose active body has only its first variables, so many
abbrev pub config_before : ℕ → Machine → Config
config_before count m = record (config_of m) { vars = take count m.vars.active }

-- the variables of the callers below a frame from which this is recovered
abbrev pub callers_past : Recovered → List ℤ → List ℤ
callers_past (recovers.Caller count call) callers = before_last count callers
callers_past (recovers.Block position) callers = callers
callers_past recovers.Return callers = callers
callers_past recovers.Nothing callers = callers

-- these frames with what was below the first one of a frame from which this is recovered
abbrev pub returning_past : Recovered → List Continuation → List Continuation
returning_past (recovers.Caller count call) others = others
returning_past (recovers.Block position) others = others
returning_past recovers.Return others = Unwind ∷ others
returning_past recovers.Nothing others = others

-- the calls that were active with a frame from which this is recovered, over those of the frames below it
abbrev pub calls_past : Recovered → List ActiveCall → List ActiveCall
calls_past (recovers.Caller count call) calls = call ∷ calls
calls_past (recovers.Block position) calls = calls
calls_past recovers.Return calls = calls
calls_past recovers.Nothing calls = calls

-- what unwinding recovers from a frame, over the variables of the callers
abbrev pub recovery_of : List ℤ → Recovered → Recovery
recovery_of callers (recovers.Caller count call) = ToCaller (last_of count callers)
recovery_of callers (recovers.Block position) = OfBlock position
recovery_of callers recovers.Return = NoRecovery
recovery_of callers recovers.Nothing = NoRecovery
