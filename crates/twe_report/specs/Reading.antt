-- The reading of a program's input, and the answer to a read that fails.
use Rattle.std.specs.Prelude.{Ok, Err}
use Rattle.twe_io.specs.declared.answer.Answer.{Answer}
use Rattle.twe_io.specs.declared.status.Status.TheVariants.{ReadFault, TooLong}
use Rattle.twe_io.specs.declared.whole.ReadFail.TheVariants as reads
use Rattle.twe_io.specs.Answers.{on_err}
use Rattle.twe_io.specs.Ends.{SourceTells, WasRead}
use Rattle.twe_report.specs.Texts.{read_fault_text, too_long_text}
use Rattle.twe_report.specs.declared.reading.Input.{Input}
use Rattle.twe_report.specs.declared.reading.Input.TheVariants.{Given, Failed}

-- Why the reading of a source has this answer.
pub data FailedRead {S : Type 0} (tells : SourceTells S) (before after : S) : Answer → Type 0 where
  -- a read failed
  read_fault : WasRead tells before (Err reads.ReadFault) after
      → FailedRead tells before after (on_err ReadFault read_fault_text)
  -- the source has more bytes than a text may have
  too_long : WasRead tells before (Err reads.TooLong) after
      → FailedRead tells before after (on_err TooLong too_long_text)

-- what the reading of a source came to: the text that it gave, or the answer to a read that failed
abbrev pub IsInput : {S : Type 0} → SourceTells S → S → S → Input → Type 0
IsInput tells before after (Given text) = WasRead tells before (Ok text) after
IsInput tells before after (Failed answer) = FailedRead tells before after answer
