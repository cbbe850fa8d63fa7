-- From what the parts of a call ensure to what the call comes to.
use Rattle.std.proofs.Common.{Result, Ok, Err, IfOk, sym, subst}
use Rattle.twe_base.specs.declared.memory.Memory as out_of
use Rattle.twe_io.specs.declared.answer.Answer.{Answer}
use Rattle.twe_io.specs.declared.status.Status.{Status}
use Rattle.twe_io.specs.Ends.{Ends, EndsTell}
use Rattle.twe_io.specs.Answers.{IsAnswered, TellsMade}

-- an answer that has its cause, if one could be made, was written
pub is_answered : {S O E : Type 0} (tells : EndsTell S O E) (Cause : S → S → Answer → Type 0) (before after : Ends S O E)
    (made : Result Answer out_of.Memory) (status : Status) → IfOk made (Cause before.src after.src)
    → TellsMade tells.out tells.err before.out after.out before.err after.err made status → IsAnswered tells Cause before after status
is_answered tells Cause before after (Ok answer) status cause told = IsAnswered.answered cause told
is_answered tells Cause before after (Err memory) status cause none =
    subst (IsAnswered tells Cause before after) (sym none.0) (IsAnswered.out_of_memory none.1 none.2)
