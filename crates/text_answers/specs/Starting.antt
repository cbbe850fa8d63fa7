-- What a command has come to before a run.
use Rattle.std.specs.Prelude.{◌≡◌, ◌≤◌, Some}
use Rattle.twe_program.specs.Program.{Program}
use Rattle.isolation_laws.specs.soundness.KeepsEffects.{KeepsEffects}
use Rattle.command_line.specs.declared.command.Command.{Command}
use Rattle.command_line.specs.Options.{max_workers}
use Rattle.twe_io.specs.Ends.{SourceTells}
use Rattle.text_answers.specs.declared.asked.AskedRun.{AskedRun}
use Rattle.text_answers.specs.declared.book.Reply.{Reply}
use Rattle.text_answers.specs.declared.starting.Started.{Started}
use Rattle.text_answers.specs.declared.starting.Started.TheVariants.{Answered, ToRun}
use Rattle.text_answers.specs.Causes.{Cause}
use Rattle.text_answers.specs.Running.{IsDueForRun, asked_of}

-- The program is ready for the run that the command asks for: it keeps the rules on effects, and this is the run, by a number
-- of workers that is in its range.
pub record IsReadyToRun (command : Command) (p : Program) (asked : AskedRun) : Type 0 where
  pub keeps : KeepsEffects p
  pub asks : asked_of command ≡ Some asked
  pub few : asked.workers ≤ max_workers

-- What a command has come to: its reply, which has its cause; or a program that is ready to be run, and the reply to a run of
-- it will have its cause.
abbrev pub IsStarted : {S : Type 0} → SourceTells S → Command → S → S → Started → Type 0
IsStarted tells command before after (Answered reply) = Cause tells command before after reply.book reply.answer
IsStarted tells command before after (ToRun p asked) =
    IsReadyToRun command p asked
    × ((reply : Reply) → IsDueForRun asked p reply → Cause tells command before after reply.book reply.answer)
