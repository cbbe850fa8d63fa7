-- A call that is answered for one cause is answered for each cause that follows from it.
use Rattle.twe_io.specs.declared.answer.Answer.{Answer}
use Rattle.twe_io.specs.declared.status.Status.{Status}
use Rattle.twe_io.specs.Ends.{Ends, EndsTell}
use Rattle.twe_io.specs.Answers.{IsAnswered}

pub answered_as : {S O E : Type 0} (tells : EndsTell S O E) (Cause Other : S → S → Answer → Type 0)
    → ((from to : S) (answer : Answer) → Cause from to answer → Other from to answer)
    → (before after : Ends S O E) (status : Status) → IsAnswered tells Cause before after status
    → IsAnswered tells Other before after status
answered_as tells Cause Other follows before after status (IsAnswered.answered {answer} cause told) =
    IsAnswered.answered (follows before.src after.src answer cause) told
answered_as tells Cause Other follows before after status (IsAnswered.out_of_memory out err) = IsAnswered.out_of_memory out err
