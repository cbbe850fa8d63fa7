-- From what the parts of a call ensure to the cause of its answer.
use Rattle.std.proofs.Common.{◌≡◌, ◌≤◌, ℕ, List, [], ◌∷◌, Option, None, Some, refl, sym, subst}
use Rattle.std.proofs.lemmas.Option.{none-some, same_Some}
use Rattle.command_line.specs.declared.command.Command.{Command}
use Rattle.command_line.specs.Numbers.{number_between}
use Rattle.command_line.specs.Options.{max_workers}
use Rattle.command_line.specs.Words.{IsSized, workers_of}
use Rattle.command_line.proofs.Sizes.{in_range}
use Rattle.twe_io.specs.Ends.{SourceTells}
use Rattle.twe_io.specs.declared.answer.Answer.{Answer}
use Rattle.text_answers.specs.declared.book.Book.{Book}
use Rattle.text_answers.specs.Causes.{Cause, CauseOfWords}
use Rattle.twe_opt.specs.Words.{command_asked, opt_usage_text, run_asked, run_by}

-- a run by workers has 1 to 64 of them
abbrev pub HasWorkers : Command → Type 0
HasWorkers command = IsSized command × (1 ≤ workers_of command)

asked-of : (number : Option ℕ) (command : Command) → ((workers : ℕ) → number ≡ Some workers → (1 ≤ workers) × (workers ≤ max_workers))
    → run_asked number ≡ Some command → HasWorkers command
asked-of None command range asked = absurd (none-some command asked)
asked-of (Some workers) command range asked =
    let within = range workers refl in
    subst HasWorkers (same_Some (run_by workers) command asked) (within.1, within.0)

-- the run that words ask for is by 1 to 64 workers
pub asked_range : (words : List (List ℕ)) (command : Command) → command_asked words ≡ Some command → HasWorkers command
asked_range [] command asked = absurd (none-some command asked)
asked_range (word ∷ []) command asked = asked-of (number_between 1 max_workers word) command (in_range 1 max_workers word) asked
asked_range (word ∷ next ∷ others) command asked = absurd (none-some command asked)

-- the answer to the run that the words ask for
pub cause_asked : {S : Type 0} (tells : SourceTells S) (words : List (List ℕ)) (before after : S) (book : Book) (command : Command)
    (answer : Answer) → command_asked words ≡ Some command → Cause tells command before after book answer
    → CauseOfWords tells opt_usage_text (command_asked words) before after book answer
cause_asked tells words before after book command answer asked cause =
    subst (λ (meaning : Option Command). CauseOfWords tells opt_usage_text meaning before after book answer) (sym asked) cause
