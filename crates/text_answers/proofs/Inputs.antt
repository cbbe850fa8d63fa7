-- The input of a command, and the causes of answers to it.
use Rattle.std.proofs.Common.{◌≡◌, ◌≤◌, ℕ, List, [], length, Result, Ok, Err, IfOk, true, false, refl, sym, subst, true≢false, arith}
use Rattle.twe_base.specs.declared.memory.Memory as out_of
use Rattle.twe_base.specs.Language.{max_text_bytes}
use Rattle.twe_frontend.specs.declared.refusal.Refusal.{Refusal}
use Rattle.twe_frontend.specs.Accepted.{IsRefusal}
use Rattle.load_text.specs.Text.{load_text_of}
use Rattle.command_line.specs.declared.command.Command.{Command}
use Rattle.command_line.specs.declared.command.Command.TheVariants.{Check, Run, Replay, Load}
use Rattle.command_line.specs.Words.{IsSized}
use Rattle.twe_io.specs.Ends.{SourceTells}
use Rattle.twe_io.specs.declared.answer.Answer.{Answer}
use Rattle.twe_report.specs.Reading.{IsInput}
use Rattle.twe_report.specs.declared.reading.Input.{Input}
use Rattle.twe_report.specs.declared.reading.Input.TheVariants.{Given, Failed}
use Rattle.text_answers.specs.declared.book.Book.{Book}
use Rattle.text_answers.specs.Answers.{Due}
use Rattle.text_answers.specs.Causes.{Cause}
use Rattle.text_answers.specs.Input.{has_input}
use Rattle.text_answers.specs.inner.Given.{IsInputOf}

-- a load has one answer whatever the input
due_of_load : (workers n : ℕ) (input other : List ℕ) (book : Book) (answer : Answer) → Due (Load workers n) input book answer → Due (Load workers n) other book answer
due_of_load workers n input other book answer (Due.refused r is has) = Due.refused r is has
due_of_load workers n input other book answer (Due.accepted p command accepted has) = Due.accepted p command accepted has
due_of_load workers n input other book answer (Due.ran crew lim asked p outcome plain command accepted has answers) = absurd (cc (command))
due_of_load workers n input other book answer (Due.loaded crew m p outcome plain command accepted has answers) = Due.loaded crew m p outcome plain command accepted has answers
due_of_load workers n input other book answer (Due.replayed lim p command accepted answers) = absurd (cc (command))

-- a load, for which nothing is read
pub input_of_load : {S : Type 0} (tells : SourceTells S) (cmd : Command) (src : S) (input : List ℕ) → has_input cmd ≡ false → input ≡ [] → IsSized cmd
    → ((n : ℕ) → n ≤ 2000 → (r : Refusal) → ¬ IsRefusal (load_text_of n) r) → IsInputOf tells cmd src src (Given input)
input_of_load tells Check src input none empty sized never = absurd (true≢false none)
input_of_load tells (Run workers lim asked) src input none empty sized never = absurd (true≢false none)
input_of_load tells (Replay lim) src input none empty sized never = absurd (true≢false none)
input_of_load tells (Load workers n) src input none empty sized never = (
  subst (λ (text : List ℕ). length text ≤ max_text_bytes) (sym empty) (omega arith),
  λ book answer due. Cause.no_input workers n refl refl (never n sized.2) (due_of_load workers n input [] book answer due),
)

-- an input that was read, or the answer to a read that failed
pub input_was_read : {S : Type 0} (tells : SourceTells S) (cmd : Command) (before after : S) (made : Result Input out_of.Memory)
    → has_input cmd ≡ true → IfOk made (IsInput tells before after) → IfOk made (IsInputOf tells cmd before after)
input_was_read tells cmd before after (Ok (Given text)) has was = (was.told.2, λ book answer due. Cause.text text has was due)
input_was_read tells cmd before after (Ok (Failed answer)) has failed = λ book new. Cause.not_read has failed new
input_was_read tells cmd before after (Err e) has was = tt
