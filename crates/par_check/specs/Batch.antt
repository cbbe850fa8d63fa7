-- A batch: its programs, their answers, and what is written.
use Rattle.std.specs.Prelude.{◌≡◌, ℕ, ◌+◌, false, List, [], ◌∷◌, ◌++◌, codes, decimal, if◌then◌else◌}
use Rattle.std.specs.List.{AllZip}
use Rattle.seg_journal.specs.Lines.{lines_of}
use Rattle.command_line.specs.declared.command.Command.{Command}
use Rattle.command_line.specs.declared.command.Command.TheVariants as commands
use Rattle.twe_io.specs.declared.answer.Answer.{Answer}
use Rattle.twe_io.specs.Codes.{code_of}
use Rattle.text_answers.specs.Answers.{IsAnswerTo, default_limits}
use Rattle.text_answers.specs.Input.{is_mark}
use Rattle.par_check.specs.declared.job.Job.{Job}
use Rattle.par_check.specs.declared.job.Job.TheVariants.{Check, Run}

-- the same texts, with a line more before the first
abbrev pub with_line : List ℕ → List (List ℕ) → List (List ℕ)
with_line line [] = line ∷ []
with_line line (text ∷ texts) = (line ++ text) ∷ texts

-- the texts between the lines that are exactly `%%`, which belong to none of them
abbrev pub programs_in : List (List ℕ) → List (List ℕ)
programs_in [] = [] ∷ []
programs_in (line ∷ lines) = if is_mark line then [] ∷ programs_in lines else with_line line (programs_in lines)

-- the programs of a batch
abbrev pub programs_of : List ℕ → List (List ℕ)
programs_of batch = programs_in (lines_of batch)

-- the command that does it: `check`, or `run` without workers, under the default limits and without a journal
abbrev pub command_of : Job → Command
command_of Check = commands.Check
command_of Run = commands.Run 0 default_limits false

-- what is written for one program: `program 7: status 0`, the bytes for out and those for err
abbrev pub answer_text : ℕ → Answer → List ℕ
answer_text number answer =
    codes "program " ++ (decimal number ++ (codes ": status "
    ++ (decimal (code_of answer.status) ++ 10 ∷ (answer.out ++ answer.err))))

-- what is written for programs one after another; the first has this number
abbrev pub batch_text : ℕ → List Answer → List ℕ
batch_text number [] = []
batch_text number (answer ∷ answers) = answer_text number answer ++ batch_text (number + 1) answers

-- this is written for the batch: an answer for each of its programs, in their order
abbrev pub IsBatch : Job → List ℕ → List ℕ → Type 0
IsBatch job batch text =
    (answers : List Answer) × AllZip (IsAnswerTo (command_of job)) (programs_of batch) answers
    × (text ≡ batch_text 1 answers)
