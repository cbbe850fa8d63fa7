-- From what the parts of a call ensure to what it comes to.
use Rattle.std.proofs.Common.{◌≡◌, ℕ, List, Option, Result, Ok, Err, None, IfOk, refl}
use Rattle.twe_base.specs.declared.memory.Memory as out_of
use Rattle.command_line.specs.declared.command.Command.{Command}
use Rattle.command_line.specs.Words.{IsMeaning}
use Rattle.twe_io.specs.declared.answer.Answer.{Answer}
use Rattle.twe_io.specs.declared.status.Status.{Status}
use Rattle.twe_io.specs.declared.status.Status.TheVariants.{Usage}
use Rattle.twe_io.specs.Answers.{TellsMade, on_err}
use Rattle.twe_io.specs.Ends.{Ends, EndsTell, SourceTells}
use Rattle.twe_io.proofs.Answered.{is_answered}
use Rattle.twe_report.specs.Texts.{usage_text}
use Rattle.text_answers.specs.declared.book.Book.{Book}
use Rattle.text_answers.specs.Causes.{AnswersWords, CauseOfWords}
use Rattle.text_answers.specs.Theorem.{IsNew}
use Rattle.twe_cli.specs.inner.Given.{HasCauseInWords}

-- the answer to words that mean none
pub cause_usage : {S : Type 0} (tells : SourceTells S) (words : List (List ℕ)) (src : S) (book : Book) (made : Result Answer out_of.Memory)
    → IsMeaning words None → IsNew book → IfOk made (λ a. a ≡ on_err Usage usage_text) → IfOk made (HasCauseInWords tells words src src book)
cause_usage tells words src book (Ok answer) none new same = (None, none, (same, refl, new))
cause_usage tells words src book (Err memory) none new same = tt

-- an answer that has its cause by what the words mean, and is written
pub answers_words : {S O E : Type 0} (tells : EndsTell S O E) (words : List (List ℕ)) (before after : Ends S O E) (book : Book)
    (made : Result Answer out_of.Memory) (status : Status) → (command : Option Command) × IsMeaning words command
    → IfOk made (HasCauseInWords tells.src words before.src after.src book)
    → TellsMade tells.out tells.err before.out after.out before.err after.err made status
    → AnswersWords tells usage_text words before after book status
answers_words tells words before after book (Ok answer) status meaning cause told =
    (cause.0, cause.1, is_answered tells (λ from to a. CauseOfWords tells.src usage_text cause.0 from to book a) before after (Ok answer) status cause.2 told)
answers_words tells words before after book (Err memory) status meaning cause told =
    (meaning.0, meaning.1, is_answered tells (λ from to a. CauseOfWords tells.src usage_text meaning.0 from to book a) before after (Err memory) status tt told)
