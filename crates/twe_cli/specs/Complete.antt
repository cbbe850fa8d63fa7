-- Completeness: which statuses a command can have, if nothing fails outside.
use Rattle.std.specs.Prelude.{◌≡◌, ◌≤◌, ◌⊎◌, true, ℕ, List, [], ◌∷◌, length, Some, Ok, Err}
use Rattle.twe_io.specs.Faults.{Rose}
use Rattle.twe_base.specs.Language.{max_text_bytes}
use Rattle.twe_program.specs.Program.{Program}
use Rattle.twe_frontend.specs.declared.refusal.Refusal.{Refusal}
use Rattle.twe_frontend.specs.Accepted.{Accepted, IsRefusal}
use Rattle.command_line.specs.declared.command.Command.{Command}
use Rattle.command_line.specs.declared.command.Command.TheVariants.{Check, Run, Replay, Load}
use Rattle.twe_io.specs.declared.status.Status.{Status}
use Rattle.twe_io.specs.declared.status.Status.TheVariants.{Done, Refused, Fault, Stuck, Memory, TooLong, BadJournal, Unfinished}
use Rattle.twe_io.specs.declared.whole.ReadFail.TheVariants as reads
use Rattle.twe_io.specs.Ends.{Ends, EndsTell, SourceTells, WasRead}
use Rattle.text_answers.specs.Input.{has_input, program_text}

-- the status is one of these
abbrev pub IsOneOf : Status → List Status → Type 0
IsOneOf status [] = ⊥
IsOneOf status (first ∷ others) = (status ≡ first) ⊎ IsOneOf status others

-- no read and no write fails in the call
pub record NothingFails {S O E : Type 0} (tells : EndsTell S O E) (before after : Ends S O E) : Type 0 where
  pub no_read : ¬ Rose (tells.src.faults before.src) (tells.src.faults after.src)
  pub no_out : ¬ Rose (tells.out.faults before.out) (tells.out.faults after.out)
  pub no_err : ¬ Rose (tells.err.faults before.err) (tells.err.faults after.err)

-- The source says before the call that this is its content, and it is within the limit. Only a command that has an input asks
-- for that.
pub record IsInputFor {S : Type 0} (tells : SourceTells S) (command : Command) (input : List ℕ) (before : S) : Type 0 where
  pub content : has_input command ≡ true → tells.left before ≡ Some input
  pub short : has_input command ≡ true → length input ≤ max_text_bytes

-- the statuses of a command on a text that is accepted
abbrev pub statuses_of : Command → List Status
statuses_of Check = Done ∷ Memory ∷ []
statuses_of (Run workers lim asked) = Done ∷ Fault ∷ Stuck ∷ Memory ∷ []
statuses_of (Replay lim) = Done ∷ Fault ∷ Stuck ∷ Memory ∷ BadJournal ∷ Unfinished ∷ []
statuses_of (Load workers n) = Done ∷ Fault ∷ Stuck ∷ Memory ∷ []

-- the status of a command on this input, if nothing fails: 1 or 7 if its program text is refused, and one of those above if it
-- is accepted
pub record IsComplete (command : Command) (input : List ℕ) (status : Status) : Type 0 where
  pub refused : (r : Refusal) → IsRefusal (program_text command input) r → IsOneOf status (Refused ∷ Memory ∷ [])
  pub accepted : (p : Program) → Accepted (program_text command input) p → IsOneOf status (statuses_of command)

-- The status of a call in which nothing fails, by what was read. `load` reads nothing. For any other command the reads of the
-- call gave an input, one piece after another, and then the end: then the status is complete for this input. Or they gave more
-- bytes than a text may have; or memory ran out.
pub data IsStatusOfReads {S : Type 0} (tells : SourceTells S) (command : Command) (before after : S) : Status → Type 0 where
  of_input : {status : Status} (input : List ℕ) → (has_input command ≡ true → WasRead tells before (Ok input) after)
      → IsComplete command input status → IsStatusOfReads tells command before after status
  too_long : has_input command ≡ true → WasRead tells before (Err reads.TooLong) after
      → IsStatusOfReads tells command before after TooLong
  out_of_memory : IsStatusOfReads tells command before after Memory

-- The status of a call is complete: let nothing fail. If the program text is refused, the status is 1 or 7. If it is accepted,
-- that of `check` is 0 or 7; that of `run` and of `load` 0, 3, 4 or 7; and that of `replay` 0, 3, 4, 7, 9 or 10.
pub record Completes {S O E : Type 0} (tells : EndsTell S O E) (command : Command) (before after : Ends S O E) (status : Status)
    : Type 0 where
  -- of any source: this holds of the input that its reads gave
  pub of_reads : NothingFails tells before after → IsStatusOfReads tells.src command before.src after.src status
  -- of a source that says what it holds, within the limit: this holds of its content, so the status is known before the call
  pub of_content : (input : List ℕ) → NothingFails tells before after → IsInputFor tells.src command input before.src
      → IsComplete command input status
