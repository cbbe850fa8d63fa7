-- From the contract of a call whose status is 0 to the run theorem.
use Rattle.std.proofs.Common.{◌≡◌, ◌≤◌, ℕ, ℤ, Bool, true, false, List, [], length, Option, None, Some, Ok, refl, sym, ap, ◌∙◌, subst, arith}
use Rattle.seg_journal.specs.declared.journal.Entry.{Entry}
use Rattle.twe_base.specs.Language.{max_text_bytes}
use Rattle.twe_base.specs.Limits.{Bounds}
use Rattle.twe_program.specs.Program.{Program}
use Rattle.twe_program.specs.WellFormed.{IsWellFormed}
use Rattle.twe_frontend.specs.Accepted.{Accepted}
use Rattle.machine_state.specs.declared.ending.Outcome.{Outcome}
use Rattle.machine_state.specs.declared.ending.Outcome.TheVariants as outcomes
use Rattle.machine_state.specs.declared.state.State.{State}
use Rattle.machine_state.specs.Runs.{AllTasksDone, Legal, state_after}
use Rattle.isolation_laws.specs.soundness.KeepsEffects.{KeepsEffects}
use Rattle.isolation_laws.specs.Within.{AlwaysWithin}
use Rattle.determinism_laws.specs.AcceptedRuns.{IsAcceptedRun}
use Rattle.command_line.specs.Words.{IsMeaning, Means}
use Rattle.command_line.specs.declared.command.Command.{Command}
use Rattle.command_line.specs.declared.command.Command.TheVariants.{Run}
use Rattle.twe_report.specs.Reading.{FailedRead}
use Rattle.twe_report.specs.Texts.{result_text}
use Rattle.twe_io.specs.Answers.{IsAnswered, Tells, on_out}
use Rattle.twe_io.specs.Ends.{Ends, EndsTell, SinkTells, SourceTells, Took, WasRead}
use Rattle.twe_io.specs.Runs.{WriteCalls}
use Rattle.twe_io.specs.declared.answer.Answer.{Answer}
use Rattle.text_answers.specs.Answers.{AnswersRun, Due, with_journal}
use Rattle.text_answers.specs.Causes.{Answers, Cause}
use Rattle.text_answers.specs.Theorem.{HasRun}
use Rattle.text_answers.specs.declared.book.Book.{Book}
use Rattle.twe_io.specs.declared.status.Status.{Status}
use Rattle.twe_io.specs.declared.status.Status.TheVariants.{Done, Fault, Stuck, Unfinished}
use Rattle.run_laws.specs.SafeRuns.{MoversAlwaysApart}
use Rattle.run_theorem.specs.Journals.{AlwaysDeclared, EachEnabledOnce}
use Rattle.run_theorem.specs.Theorem.{RunTheorem, output_of_run}

-- a run whose status is 0 has finished all tasks, and its answer has the result
done_answer : (p : Program) (last : State) (prints : List ℤ) (outcome : Outcome) (plain : Answer) → AnswersRun p last prints outcome plain → plain.status ≡ Done
    → (outcome ≡ outcomes.AllDone) × (plain ≡ on_out Done (result_text p last))
done_answer p last prints outcomes.AllDone plain is done = (refl, is)
done_answer p last prints (outcomes.Fault task kind place) plain is done =
    let other : Fault ≡ Done = sym (ap (λ (a : Answer). a.status) is) ∙ done in absurd (cc (other))
done_answer p last prints outcomes.Stuck plain is done =
    let other : Stuck ≡ Done = sym (ap (λ (a : Answer). a.status) is.3) ∙ done in absurd (cc (other))
done_answer p last prints outcomes.Unfinished plain is done =
    let other : Unfinished ≡ Done = sym (ap (λ (a : Answer). a.status) is) ∙ done in absurd (cc (other))

-- the book and the answer of a run whose status is 0
pub record DoneRun (workers : ℕ) (lim : Bounds) (asked : Bool) (text : List ℕ) (book : Book) (answer : Answer) : Type 0 where
  pub program : Program
  pub accepted : Accepted text program
  pub has : HasRun program lim workers outcomes.AllDone book
  pub same : answer ≡ with_journal asked lim book.journal (on_out Done (result_text program (state_after program lim book.journal)))

pub done_run : (workers : ℕ) (lim : Bounds) (asked : Bool) (text : List ℕ) (book : Book) (answer : Answer) → Due (Run workers lim asked) text book answer → answer.status ≡ Done
    → DoneRun workers lim asked text book answer
done_run workers lim asked text book answer (Due.refused r is has) done = absurd (cc (done))
done_run workers lim asked text book answer (Due.accepted p command is has) done = absurd (cc (command))
done_run workers lim asked text book answer (Due.loaded crew n p outcome plain command is has answers) done = absurd (cc (command))
done_run workers lim asked text book answer (Due.replayed used p command is answers) done = absurd (cc (command))
done_run workers lim asked text book answer (Due.ran crew used flag p outcome plain command is has answers) done =
    let crews : crew ≡ workers = cc (command) in
    let limits : used ≡ lim = cc (command) in
    let flags : flag ≡ asked = cc (command) in
    let ended = done_answer p (state_after p used book.journal) _ outcome plain answers done in
    let whole = with_journal flag used book.journal plain in
    let run : DoneRun crew used flag text book whole = record {
      program = p;
      accepted = is;
      has = subst (λ (o : Outcome). HasRun p used crew o book) ended.0 has;
      same = ap (with_journal flag used book.journal) ended.1;
    } in
    subst (λ (k : ℕ). DoneRun k lim asked text book whole) crews
    (subst (λ (l : Bounds). DoneRun crew l asked text book whole) limits
    (subst (λ (b : Bool). DoneRun crew used b text book whole) flags run))

-- what it writes
result_out : (asked : Bool) (p : Program) (lim : Bounds) (journal : List Entry)
    → (with_journal asked lim journal (on_out Done (result_text p (state_after p lim journal)))).out ≡ output_of_run asked p lim journal
result_out true p lim journal = refl
result_out false p lim journal = refl

-- an empty text takes no write
wrote_none : {K : Type 0} {gives : K → List ℕ → Option ℕ → K → Type 0} {text : List ℕ} {first last : K} {n : ℕ} → WriteCalls gives text first n last → n ≡ 0 → last ≡ first
wrote_none WriteCalls.none empty = refl
wrote_none (WriteCalls.write {n} {before} {after} taken more writes less some step e) empty = absurd (omega (arith, some, e, empty))

-- a read that failed has another status
failed_status : {S : Type 0} (src : SourceTells S) (from to : S) (answer : Answer) → FailedRead src from to answer → answer.status ≡ Done → ⊥
failed_status src from to answer (FailedRead.read_fault was) done = cc (done)
failed_status src from to answer (FailedRead.too_long was) done = cc (done)

-- an answer that was written with status 0 has it
told_status : {O E : Type 0} (out : SinkTells O) (err : SinkTells E) (out_from out_to : O) (err_from err_to : E) (answer : Answer) (status : Status)
    → Tells out err out_from out_to err_from err_to answer status → status ≡ Done → answer.status ≡ Done
told_status out err out_from out_to err_from err_to answer status (Tells.told took errs) done = done
told_status out err out_from out_to err_from err_to answer status (Tells.out_broke_off a b) done = absurd (cc (done))
told_status out err out_from out_to err_from err_to answer status (Tells.err_broke_off a b) done = absurd (cc (done))

module _ (well_formed : (text : List ℕ) (p : Program) → length text ≤ max_text_bytes → Accepted text p → IsWellFormed p)
    (within : (p : Program) → IsWellFormed p → KeepsEffects p → (lim : Bounds) (journal : List Entry) → Legal p lim journal → AlwaysWithin p lim journal)
    (declared : (p : Program) (lim : Bounds) (journal : List Entry) → IsAcceptedRun p lim journal → AlwaysDeclared p lim journal)
    (apart : (p : Program) (lim : Bounds) (journal : List Entry) → IsAcceptedRun p lim journal → MoversAlwaysApart p lim journal)
    (once : (p : Program) (lim : Bounds) (journal : List Entry) → IsWellFormed p → Legal p lim journal → AllTasksDone (state_after p lim journal)
    → EachEnabledOnce journal (state_after p lim journal))
    {S O E : Type 0} (tells : EndsTell S O E) (workers : ℕ) (lim : Bounds) (asked : Bool) (before after : Ends S O E) (book : Book) where
  abbrev Theorem : Type 0
  Theorem = RunTheorem tells workers lim asked before after book

  of_run : (text : List ℕ) (answer : Answer) → WasRead tells.src before.src (Ok text) after.src → DoneRun workers lim asked text book answer
      → Took tells.out answer.out before.out after.out → Took tells.err answer.err before.err after.err → Theorem
  of_run text answer was run took errs =
      let p = run.program in
      let has = run.has.has in
      let well = well_formed text p was.told.2 run.accepted in
      let keeps = run.accepted.keeps in
      let accepted : IsAcceptedRun p lim book.journal = record { well_formed = well; keeps = keeps; legal = has.legal } in
      let text_out : answer.out ≡ output_of_run asked p lim book.journal =
      ap (λ (a : Answer). a.out) run.same ∙ result_out asked p lim book.journal in
      let none : answer.err ≡ [] = ap (λ (a : Answer). a.err) run.same in
      record {
        text = text;
        read = was;
        program = p;
        accepted = run.accepted;
        well_formed = well;
        kept = has.program;
        legal = has.legal;
        no_fault = has.ended.0;
        all_done = has.ended.1;
        outcome = has.told;
        once = once p lim book.journal well has.legal has.ended.1;
        isolated = has.isolated;
        declared = declared p lim book.journal accepted;
        within = within p well keeps lim book.journal has.legal;
        covered = has.covered;
        apart = apart p lim book.journal accepted;
        deterministic = has.deterministic;
        of_main = λ flag. has.of_main flag has.ended.1;
        lowest = run.has.lowest;
        output = subst (λ (bytes : List ℕ). Took tells.out bytes before.out after.out) text_out took;
        no_error = wrote_none errs.writes (ap (λ (bytes : List ℕ). length bytes) none);
      }

  of_told : (text : List ℕ) (answer : Answer) (status : Status) → WasRead tells.src before.src (Ok text) after.src
      → Due (Run workers lim asked) text book answer → Tells tells.out tells.err before.out after.out before.err after.err answer status
      → status ≡ Done → Theorem
  of_told text answer status was due (Tells.told took errs) done =
      of_run text answer was (done_run workers lim asked text book answer due done) took errs
  of_told text answer status was due (Tells.out_broke_off a b) done = absurd (cc (done))
  of_told text answer status was due (Tells.err_broke_off a b) done = absurd (cc (done))

  -- the answer is to a text: no read has failed, and `run` has an input
  of_cause : (answer : Answer) (status : Status) → Cause tells.src (Run workers lim asked) before.src after.src book answer
      → Tells tells.out tells.err before.out after.out before.err after.err answer status → status ≡ Done → Theorem
  of_cause answer status (Cause.not_read has failed new) told done =
      absurd (failed_status tells.src before.src after.src answer failed
      (told_status tells.out tells.err before.out after.out before.err after.err answer status told done))
  of_cause answer status (Cause.text bytes has was due) told done = of_told bytes answer status was due told done
  of_cause answer status (Cause.no_input crew n same nothing never due) told done = absurd (cc (same))

  of_answered : (status : Status) → IsAnswered tells (λ from to answer. Cause tells.src (Run workers lim asked) from to book answer) before after status
      → status ≡ Done → Theorem
  of_answered status (IsAnswered.answered {answer} cause told) done = of_cause answer status cause told done
  of_answered status (IsAnswered.out_of_memory a b) done = absurd (cc (done))

  -- the words mean this command and no other one
  pub of_meaning : (words : List (List ℕ)) (usage : List ℕ) → ((command other : Command) → Means words command → Means words other → command ≡ other)
      → Means words (Run workers lim asked) → (meaning : Option Command) → IsMeaning words meaning
      → Answers tells usage meaning before after book Done → Theorem
  of_meaning words usage one means None none came = absurd (none (Run workers lim asked) means)
  of_meaning words usage one means (Some command) is came =
      of_answered Done
      (subst (λ (c : Command). IsAnswered tells (λ from to answer. Cause tells.src c from to book answer) before after Done) (one command (Run workers lim asked) is means) came)
      refl
