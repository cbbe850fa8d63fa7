-- What the program answers, and why.
use Rattle.std.specs.Prelude.{◌≡◌, ℕ, List, None, Some, Ok}
use Rattle.twe_io.specs.Ends.{Ends, EndsTell, SourceTells, WasRead}
use Rattle.twe_io.specs.Answers.{IsAnswered, on_err, on_out}
use Rattle.par_check.specs.declared.job.Job.{Job}
use Rattle.par_check.specs.Batch.{IsBatch}
use Rattle.twe_io.specs.declared.answer.Answer.{Answer}
use Rattle.twe_io.specs.declared.status.Status.{Status}
use Rattle.twe_io.specs.declared.status.Status.TheVariants.{Done, Usage}
use Rattle.twe_report.specs.Reading.{FailedRead}
use Rattle.twe_batch.specs.Words.{IsBatchMeaning, batch_usage_text}

-- Why the program gives an answer, before it writes anything.
pub data BatchCause {S : Type 0} (tells : SourceTells S) (words : List (List ℕ)) (before after : S)
    : Answer → Type 0 where
  -- the words ask for nothing, and nothing is read
  usage : IsBatchMeaning words None → after ≡ before → BatchCause tells words before after (on_err Usage batch_usage_text)
  -- a read failed, or the source has more bytes than a batch may have
  not_read : {answer : Answer} (job : Job) → IsBatchMeaning words (Some job) → FailedRead tells before after answer
      → BatchCause tells words before after answer
  -- the source gave a batch, and this is written for it
  batch : (job : Job) (bytes text : List ℕ) → IsBatchMeaning words (Some job) → WasRead tells before (Ok bytes) after
      → IsBatch job bytes text
      → BatchCause tells words before after (on_out Done text)

-- what a call of the program comes to: an answer that has its cause is written; or memory runs out, and nothing is written
abbrev pub AnswersBatch : {S O E : Type 0} → EndsTell S O E → List (List ℕ) → Ends S O E → Ends S O E → Status
    → Type 0
AnswersBatch tells words before after status = IsAnswered tells (BatchCause tells.src words) before after status
