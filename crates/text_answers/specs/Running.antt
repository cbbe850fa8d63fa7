-- The run that a command asks for, and the reply to it.
use Rattle.std.specs.Prelude.{◌≡◌, ◌≤◌, ℕ, List, Option, None, Some}
use Rattle.twe_program.specs.Program.{Program}
use Rattle.twe_frontend.specs.Accepted.{Accepted}
use Rattle.machine_state.specs.LowestFirst.{IsOver, LowestFirst}
use Rattle.machine_state.specs.Runs.{Legal, state_after}
use Rattle.flat_sched.specs.RunEnds.{IsRunEnd}
use Rattle.flat_sched.specs.declared.ending.WholeRun.{WholeRun}
use Rattle.command_line.specs.declared.command.Command.{Command}
use Rattle.command_line.specs.declared.command.Command.TheVariants.{Check, Run, Replay, Load}
use Rattle.text_answers.specs.declared.asked.AskedRun.{AskedRun}
use Rattle.text_answers.specs.declared.asked.Report.TheVariants.{OfRun, OfLoad}
use Rattle.text_answers.specs.declared.book.Reply.{Reply}
use Rattle.text_answers.specs.Answers.{Due, default_limits}
use Rattle.text_answers.specs.Input.{program_text}

-- the run that a command asks for, if it asks for one
abbrev pub asked_of : Command → Option AskedRun
asked_of Check = None
asked_of (Run workers lim journal) = Some (record { workers = workers; limits = lim; report = OfRun journal })
asked_of (Replay lim) = None
asked_of (Load workers n) = Some (record { workers = workers; limits = default_limits; report = OfLoad n })

-- This is a run of the program as it is asked for: the run is over, and has ended so. Without workers, or with one, its
-- journal is the lowest-first one.
pub record IsWholeRun (p : Program) (asked : AskedRun) (run : WholeRun) : Type 0 where
  pub legal : Legal p asked.limits run.journal
  pub state : run.state ≡ state_after p asked.limits run.journal
  pub over : IsOver run.state
  pub ends : IsRunEnd run.state run.end
  pub lowest : asked.workers ≤ 1 → LowestFirst p asked.limits run.journal

-- the reply to each command that asks for this run and each input whose program text is accepted and has this program
abbrev pub IsDueForRun : AskedRun → Program → Reply → Type 0
IsDueForRun asked p reply =
    (command : Command) (input : List ℕ) → asked_of command ≡ Some asked → Accepted (program_text command input) p
    → Due command input reply.book reply.answer
