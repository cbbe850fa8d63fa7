-- From what the parts of a start ensure to what the command has come to.
use Rattle.std.proofs.Common.{◌≡◌, ◌≤◌, ℕ, List, Result, Ok, Err, Option, Some, IfOk, refl, sym, ap, ◌∙◌, subst}
use Rattle.twe_base.specs.declared.memory.Memory as out_of
use Rattle.twe_base.specs.Limits.{Bounds}
use Rattle.twe_program.specs.Program.{Program}
use Rattle.twe_frontend.specs.Accepted.{Accepted, IsRefusal}
use Rattle.twe_frontend.specs.Reads.{HasCause}
use Rattle.twe_frontend.specs.declared.read.FrontFail.{FrontFail}
use Rattle.twe_frontend.specs.declared.refusal.Refusal.{Refusal}
use Rattle.twe_frontend.specs.declared.read.FrontFail.TheVariants.{Refused, OutOfMemory}
use Rattle.twe_report.specs.Texts.{accepted_text, refusal_text}
use Rattle.twe_report.specs.declared.reading.Input.TheVariants.{Given}
use Rattle.command_line.specs.Options.{max_workers}
use Rattle.command_line.specs.declared.command.Command.{Command}
use Rattle.command_line.specs.declared.command.Command.TheVariants.{Check, Replay, Load}
use Rattle.twe_io.specs.declared.status.Status.TheVariants.{Done}
use Rattle.twe_io.specs.declared.status.Status.TheVariants as statuses
use Rattle.twe_io.specs.Answers.{on_err, on_out}
use Rattle.twe_io.specs.Ends.{SourceTells}
use Rattle.text_answers.specs.declared.asked.AskedRun.{AskedRun}
use Rattle.text_answers.specs.declared.asked.Report.TheVariants.{OfLoad}
use Rattle.text_answers.specs.declared.book.Reply.{Reply}
use Rattle.text_answers.specs.declared.starting.Started.{Started}
use Rattle.text_answers.specs.declared.starting.Started.TheVariants.{Answered, ToRun}
use Rattle.text_answers.specs.Answers.{AnswersReplay, Due, default_limits}
use Rattle.text_answers.specs.Input.{journal_part, program_part, program_text}
use Rattle.text_answers.specs.Running.{asked_of}
use Rattle.text_answers.specs.Starting.{IsStarted}
use Rattle.text_answers.specs.Theorem.{HasProgram, HasRefusal}
use Rattle.text_answers.specs.inner.Given.{IsInputOf, IsRefusalReply, IsReplyOfReplay, IsReplyTo, IsStartedFor, IsStartedToRun}

-- a text that is accepted
pub accepted : (p : Program) (text : List ℕ) (made : Result Reply out_of.Memory) → Accepted text p → IfOk made (λ r. HasProgram p r.book)
    → IfOk made (λ r. r.answer ≡ on_out Done accepted_text) → IfOk made (IsReplyTo Check text)
accepted p text (Ok reply) keeps has same = subst (Due Check text reply.book) (sym same) (Due.accepted p refl keeps has)
accepted p text (Err e) keeps has same = tt

-- a journal text that is replayed
pub replayed : (lim : Bounds) (p : Program) (input program journal : List ℕ) (made : Result Reply out_of.Memory) → program ≡ program_part input
    → journal ≡ journal_part input → Accepted program p → IfOk made (IsReplyOfReplay p lim journal) → IfOk made (IsReplyTo (Replay lim) input)
replayed lim p input program journal (Ok reply) before after keeps answers =
    Due.replayed lim p refl (subst (λ (text : List ℕ). Accepted text p) before keeps)
    (subst (λ (text : List ℕ). AnswersReplay p lim text reply.book reply.answer) after answers)
replayed lim p input program journal (Err e) before after keeps answers = tt

-- the reply to a refusal
pub refusal_reply : (fail : FrontFail) (r : Refusal) (reply : Reply) → fail ≡ Refused r → HasRefusal r reply.book → reply.answer ≡ on_err statuses.Refused (refusal_text r)
    → IsRefusalReply fail reply
refusal_reply fail r reply is has same = subst (λ (f : FrontFail). IsRefusalReply f reply) (sym is) (has, same)

-- a text that is refused
pub refused : (command : Command) (input program : List ℕ) (fail : FrontFail) (made : Result Reply out_of.Memory) → program ≡ program_text command input
    → HasCause program fail → IfOk made (IsRefusalReply fail) → IfOk made (IsReplyTo command input)
refused command input program (Refused r) (Ok reply) same cause is =
    subst (Due command input reply.book) (sym is.1) (Due.refused r (subst (λ (text : List ℕ). IsRefusal text r) same cause) is.0)
refused command input program (OutOfMemory memory) (Ok reply) same cause is = absurd is
refused command input program (Refused r) (Err e) same cause is = tt
refused command input program (OutOfMemory memory) (Err e) same cause is = tt

-- a program that is to be run
pub to_run : (p : Program) (asked : AskedRun) (program : List ℕ) → Accepted program p → asked.workers ≤ max_workers → IsStartedToRun program asked (ToRun p asked)
to_run p asked program keeps few = λ command input asks same.
    (subst (λ (text : List ℕ). Accepted text p) same keeps, record { keeps = keeps.keeps; asks = asks; few = few })

-- a program that is refused
pub refused_to_run : (asked : AskedRun) (program : List ℕ) (fail : FrontFail) (reply : Reply) → HasCause program fail → IsRefusalReply fail reply
    → IsStartedToRun program asked (Answered reply)
refused_to_run asked program fail reply cause is = λ command input asks same. refused command input program fail (Ok reply) same cause is

-- the run that a load asks for, under these limits
abbrev pub load_under : ℕ → ℕ → Bounds → Option AskedRun
load_under workers n lim = Some (record { workers = workers; limits = lim; report = OfLoad n })

-- a load asks for a run under the default limits
pub asks_for_load : (command : Command) (workers n : ℕ) (lim : Bounds) → command ≡ Load workers n → lim ≡ default_limits
    → asked_of command ≡ load_under workers n lim
asks_for_load command workers n lim is same = ap asked_of is ∙ ap (load_under workers n) (sym same)

-- a command that asks for a run
pub of_run : (command : Command) (input program : List ℕ) (asked : AskedRun) (made : Result Started out_of.Memory) → asked_of command ≡ Some asked
    → program ≡ program_text command input → IfOk made (IsStartedToRun program asked) → IfOk made (IsStartedFor command input)
of_run command input program asked (Ok started) asks same is = is command input asks same
of_run command input program asked (Err e) asks same is = tt

-- an input that was read
pub of_input : {S : Type 0} (tells : SourceTells S) (cmd : Command) (before after : S) (input : List ℕ) (made : Result Started out_of.Memory)
    → IsInputOf tells cmd before after (Given input) → IfOk made (IsStartedFor cmd input) → IfOk made (IsStarted tells cmd before after)
of_input tells cmd before after input (Ok (Answered reply)) given due = given.1 reply.book reply.answer due
of_input tells cmd before after input (Ok (ToRun p asked)) given ready =
    (ready.1, λ reply due. given.1 reply.book reply.answer (due cmd input ready.1.asks ready.0))
of_input tells cmd before after input (Err e) given started = tt
