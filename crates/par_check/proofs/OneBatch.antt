-- A batch has one text.
use Rattle.std.proofs.Common.{◌≡◌, ◌≤◌, ℕ, List, [], ◌∷◌, refl, sym, ap, arith, ◌∙◌}
use Rattle.std.specs.List.{AllZip}
use Rattle.command_line.specs.declared.command.Command.{Command}
use Rattle.twe_io.specs.declared.answer.Answer.{Answer}
use Rattle.text_answers.specs.Answers.{IsAnswerTo}
use Rattle.command_line.specs.Words.{workers_of}
use Rattle.par_check.specs.declared.job.Job.{Job}
use Rattle.par_check.specs.declared.job.Job.TheVariants.{Check, Run}
use Rattle.par_check.specs.Batch.{IsBatch, batch_text, command_of, programs_of}

-- one command has one answer to each input
abbrev pub HasOne : Command → Type 0
HasOne command = (input : List ℕ) (answer other : Answer) → IsAnswerTo command input answer → IsAnswerTo command input other → answer ≡ other

same-answers : (command : Command) → HasOne command → (texts : List (List ℕ)) (xs ys : List Answer) → AllZip (IsAnswerTo command) texts xs → AllZip (IsAnswerTo command) texts ys → xs ≡ ys
same-answers command one [] [] [] h k = refl
same-answers command one [] [] (y ∷ ys) h k = absurd k
same-answers command one [] (x ∷ xs) ys h k = absurd h
same-answers command one (text ∷ texts) [] ys h k = absurd h
same-answers command one (text ∷ texts) (x ∷ xs) [] h k = absurd k
same-answers command one (text ∷ texts) (x ∷ xs) (y ∷ ys) h k =
    ap (λ (z : Answer). z ∷ xs) (one text x y h.0 k.0) ∙ ap (λ (zs : List Answer). y ∷ zs) (same-answers command one texts xs ys h.1 k.1)

pub one-text : (job : Job) → HasOne (command_of job) → (batch one other : List ℕ) → IsBatch job batch one → IsBatch job batch other → one ≡ other
one-text job has batch one other h k =
    h.2 ∙ ap (batch_text 1) (same-answers (command_of job) has (programs_of batch) h.0 k.0 h.1 k.1) ∙ sym k.2

pub no-workers : (job : Job) → workers_of (command_of job) ≤ 1
no-workers Check = omega arith
no-workers Run = omega arith
