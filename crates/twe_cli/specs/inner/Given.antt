-- What is known of the answer on the way to it.
use Rattle.std.specs.Prelude.{ℕ, List, Option}
use Rattle.command_line.specs.declared.command.Command.{Command}
use Rattle.command_line.specs.Words.{IsMeaning}
use Rattle.twe_io.specs.declared.answer.Answer.{Answer}
use Rattle.twe_io.specs.Ends.{SourceTells}
use Rattle.twe_report.specs.Texts.{usage_text}
use Rattle.text_answers.specs.declared.book.Book.{Book}
use Rattle.text_answers.specs.Causes.{CauseOfWords}

-- the answer has its cause, by what the words mean
abbrev pub HasCauseInWords : {S : Type 0} → SourceTells S → List (List ℕ) → S → S → Book → Answer → Type 0
HasCauseInWords tells words before after book answer =
    (command : Option Command) × IsMeaning words command × CauseOfWords tells usage_text command before after book answer
