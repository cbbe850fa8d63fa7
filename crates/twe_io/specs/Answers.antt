-- An answer of a program, how it is written, and what a call comes to.
use Rattle.std.specs.Prelude.{◌≡◌, ℕ, List, [], Result, Ok, Err}
use Rattle.twe_base.specs.declared.memory.Memory as out_of
use Rattle.twe_io.specs.declared.answer.Answer.{Answer}
use Rattle.twe_io.specs.declared.status.Status.{Status}
use Rattle.twe_io.specs.declared.status.Status.TheVariants.{WriteFault, Memory}
use Rattle.twe_io.specs.Ends.{Ends, EndsTell, SinkTells, Took, BrokeOff}

-- an answer on err alone: this line, and nothing on out
abbrev pub on_err : Status → List ℕ → Answer
on_err status line = record { status = status; out = []; err = line }

-- an answer on out alone: this text, and nothing on err
abbrev pub on_out : Status → List ℕ → Answer
on_out status text = record { status = status; out = text; err = [] }

-- How an answer is written, out before err: all of it, or up to a write that fails, after which nothing is written.
pub data Tells {O E : Type 0} (out : SinkTells O) (err : SinkTells E)
    (out_from out_to : O) (err_from err_to : E) (answer : Answer) : Status → Type 0 where
  told : Took out answer.out out_from out_to → Took err answer.err err_from err_to
      → Tells out err out_from out_to err_from err_to answer answer.status
  out_broke_off : BrokeOff out answer.out out_from out_to → err_to ≡ err_from
      → Tells out err out_from out_to err_from err_to answer WriteFault
  err_broke_off : Took out answer.out out_from out_to → BrokeOff err answer.err err_from err_to
      → Tells out err out_from out_to err_from err_to answer WriteFault

-- How an answer is written, if one could be made. If not, nothing is written.
abbrev pub TellsMade : {O E : Type 0} → SinkTells O → SinkTells E → O → O → E → E → Result Answer out_of.Memory → Status → Type 0
TellsMade out err out_from out_to err_from err_to (Ok answer) status = Tells out err out_from out_to err_from err_to answer status
TellsMade out err out_from out_to err_from err_to (Err memory) status =
    (status ≡ Memory) × (out_to ≡ out_from) × (err_to ≡ err_from)

-- What a call of a program comes to, if `Cause` says why it gives an answer, by its source before and after: an answer that
-- has its cause is written; or memory runs out, and nothing is written.
pub data IsAnswered {S O E : Type 0} (tells : EndsTell S O E) (Cause : S → S → Answer → Type 0) (before after : Ends S O E)
    : Status → Type 0 where
  answered : {answer : Answer} {status : Status} → Cause before.src after.src answer
      → Tells tells.out tells.err before.out after.out before.err after.err answer status
      → IsAnswered tells Cause before after status
  out_of_memory : after.out ≡ before.out → after.err ≡ before.err → IsAnswered tells Cause before after Memory
