-- Why a command has its answer, and what a call of a program that carries out commands comes to.
use Rattle.std.specs.Prelude.{◌≡◌, true, ℕ, List, [], Option, None, Some, Ok}
use Rattle.twe_frontend.specs.declared.refusal.Refusal.{Refusal}
use Rattle.twe_frontend.specs.Accepted.{IsRefusal}
use Rattle.load_text.specs.Text.{load_text_of}
use Rattle.command_line.specs.Words.{IsMeaning}
use Rattle.command_line.specs.declared.command.Command.{Command}
use Rattle.command_line.specs.declared.command.Command.TheVariants.{Load}
use Rattle.twe_io.specs.declared.answer.Answer.{Answer}
use Rattle.twe_io.specs.declared.status.Status.{Status}
use Rattle.twe_io.specs.declared.status.Status.TheVariants.{Usage}
use Rattle.twe_io.specs.Answers.{IsAnswered, on_err}
use Rattle.twe_io.specs.Ends.{Ends, EndsTell, SourceTells, WasRead}
use Rattle.twe_report.specs.Reading.{FailedRead}
use Rattle.text_answers.specs.declared.book.Book.{Book}
use Rattle.text_answers.specs.Answers.{Due}
use Rattle.text_answers.specs.Input.{has_input}
use Rattle.text_answers.specs.Theorem.{IsNew}

-- Why a command has this answer, before anything is written.
pub data Cause {S : Type 0} (tells : SourceTells S) (command : Command) (before after : S) (book : Book) : Answer → Type 0 where
  -- a read failed, or the source has more bytes than a text may have
  not_read : {answer : Answer} → has_input command ≡ true → FailedRead tells before after answer → IsNew book
      → Cause tells command before after book answer
  -- the source gave a text, and this is the answer that is due to it, with this book
  text : {answer : Answer} (bytes : List ℕ) → has_input command ≡ true → WasRead tells before (Ok bytes) after
      → Due command bytes book answer → Cause tells command before after book answer
  -- the command has no input, and nothing is read; its program text is never refused
  no_input : {answer : Answer} (workers n : ℕ) → command ≡ Load workers n → after ≡ before
      → ((r : Refusal) → ¬ IsRefusal (load_text_of n) r) → Due (Load workers n) [] book answer
      → Cause tells command before after book answer

-- Why a program has this answer, if its words mean this command or none. If they mean none, the answer is the usage line, and
-- nothing is read.
abbrev pub CauseOfWords : {S : Type 0} → SourceTells S → List ℕ → Option Command → S → S → Book → Answer
    → Type 0
CauseOfWords tells usage None before after book answer = (answer ≡ on_err Usage usage) × (after ≡ before) × IsNew book
CauseOfWords tells usage (Some command) before after book answer = Cause tells command before after book answer

-- What a call of a program with this usage line comes to, if its words mean this command or none: an answer that has its cause is
-- written; or memory runs out, and nothing is written.
abbrev pub Answers : {S O E : Type 0} → EndsTell S O E → List ℕ → Option Command → Ends S O E → Ends S O E → Book
    → Status → Type 0
Answers tells usage command before after book status =
    IsAnswered tells (λ from to answer. CauseOfWords tells.src usage command from to book answer) before after status

-- What a call of a program with this usage line and these words comes to: `Answers`, of the command that the words mean, or of
-- none.
abbrev pub AnswersWords : {S O E : Type 0} → EndsTell S O E → List ℕ → List (List ℕ) → Ends S O E → Ends S O E → Book
    → Status → Type 0
AnswersWords tells usage words before after book status =
    (command : Option Command) × IsMeaning words command × Answers tells usage command before after book status
