-- If main is deterministic, all runs of a text under the same limits have one status.
use Rattle.std.proofs.Common.{◌≡◌, ◌≢◌, ℕ, ℤ, Bool, List, None, Some, inl, inr, refl, sym, ap, ◌∙◌, subst}
use Rattle.seg_journal.specs.declared.journal.Entry.{Entry}
use Rattle.twe_base.specs.Limits.{Bounds}
use Rattle.twe_program.specs.Program.{Program}
use Rattle.twe_frontend.specs.declared.refusal.Refusal.{Refusal}
use Rattle.twe_frontend.specs.Accepted.{Accepted, IsRefusal}
use Rattle.machine_state.specs.declared.ending.Outcome.{Outcome}
use Rattle.machine_state.specs.declared.ending.Outcome.TheVariants as outcomes
use Rattle.machine_state.specs.declared.state.FirstFault.{FirstFault}
use Rattle.machine_state.specs.declared.state.State.{State}
use Rattle.machine_state.specs.LowestFirst.{IsOver}
use Rattle.machine_state.specs.Runs.{IsOutcome, Legal, counted, state_after}
use Rattle.determinism_laws.specs.Endings.{HasMetFault, HaveEndedAlike}
use Rattle.command_line.specs.declared.command.Command.TheVariants.{Run}
use Rattle.twe_io.specs.declared.answer.Answer.{Answer}
use Rattle.text_answers.specs.Answers.{AnswersRun, Due}
use Rattle.text_answers.specs.Theorem.{HasRun}
use Rattle.text_answers.specs.declared.book.Book.{Book}
use Rattle.twe_io.specs.declared.status.Status.TheVariants.{Done, Fault}

-- A state that a run has ended in.
module _ (p : Program) (last : State) (prints : List ℤ) where
  no_end : (outcome : Outcome) → IsOutcome last outcome → outcome ≢ outcomes.Unfinished → IsOutcome last outcomes.Unfinished → ⊥
  no_end outcomes.AllDone ended other goes_on = goes_on.1 ended.1
  no_end (outcomes.Fault task kind place) ended other goes_on =
      let fault : FirstFault = record { task = task; kind = kind; place = place } in
      let both : None ≡ Some fault = sym goes_on.0 ∙ ended in
      cc (both)
  no_end outcomes.Stuck ended other goes_on = ended.2 goes_on.2.0 goes_on.2.1
  no_end outcomes.Unfinished ended other goes_on = other refl

  is_over : (outcome : Outcome) → IsOutcome last outcome → outcome ≢ outcomes.Unfinished → IsOver last
  is_over outcome ended other another is same = no_end outcome ended other (subst (IsOutcome last) same is)

  done_status : (outcome : Outcome) (plain : Answer) → IsOutcome last outcomes.AllDone → IsOutcome last outcome → outcome ≢ outcomes.Unfinished → AnswersRun p last prints outcome plain → plain.status ≡ Done
  done_status outcomes.AllDone plain all ended other answers = ap (λ (a : Answer). a.status) answers
  done_status (outcomes.Fault task kind place) plain all ended other answers =
      let fault : FirstFault = record { task = task; kind = kind; place = place } in
      let both : None ≡ Some fault = sym all.0 ∙ ended in
      absurd (cc (both))
  done_status outcomes.Stuck plain all ended other answers = absurd (ended.1 all.1)
  done_status outcomes.Unfinished plain all ended other answers = absurd (other refl)

  fault_status : (outcome : Outcome) (plain : Answer) → HasMetFault last → IsOutcome last outcome → outcome ≢ outcomes.Unfinished → AnswersRun p last prints outcome plain → plain.status ≡ Fault
  fault_status outcomes.AllDone plain met ended other answers = let both : None ≡ Some met.0 = sym ended.0 ∙ met.1 in absurd (cc (both))
  fault_status (outcomes.Fault task kind place) plain met ended other answers = ap (λ (a : Answer). a.status) answers
  fault_status outcomes.Stuck plain met ended other answers = let both : None ≡ Some met.0 = sym ended.0 ∙ met.1 in absurd (cc (both))
  fault_status outcomes.Unfinished plain met ended other answers = absurd (other refl)

-- The run of this program that an answer tells of.
record RunOf (p : Program) (lim : Bounds) (book : Book) (answer : Answer) : Type 0 where
  workers : ℕ
  outcome : Outcome
  plain : Answer
  has : HasRun p lim workers outcome book
  answers : AnswersRun p (state_after p lim book.journal) (state_after p lim (counted book.journal)).prints outcome plain
  status : answer.status ≡ plain.status

run_of : (p : Program) (lim : Bounds) (text : List ℕ) → ((q : Program) → Accepted text q → q ≡ p) → ((refusal : Refusal) → ¬ IsRefusal text refusal)
    → (crew : ℕ) (asked : Bool) (book : Book) (answer : Answer) → Due (Run crew lim asked) text book answer → RunOf p lim book answer
run_of p lim text one kept crew asked book answer (Due.refused r is has) = absurd (kept r is)
run_of p lim text one kept crew asked book answer (Due.accepted q command is has) = absurd (cc (command))
run_of p lim text one kept crew asked book answer (Due.loaded workers n q outcome plain command is has answers) = absurd (cc (command))
run_of p lim text one kept crew asked book answer (Due.replayed used q command is answers) = absurd (cc (command))
run_of p lim text one kept crew asked book answer (Due.ran workers used flag q outcome plain command is has answers) =
    let limits : used ≡ lim = cc (command) in
    let run : RunOf q used book answer = record { workers = workers; outcome = outcome; plain = plain; has = has; answers = answers; status = refl } in
    subst (λ (r : Program). RunOf r lim book answer) (one q is) (subst (λ (l : Bounds). RunOf q l book answer) limits run)

module _ (p : Program) (lim : Bounds) (book : Book) (answer : Answer) (run : RunOf p lim book answer) where
  abbrev last : State
  last = state_after p lim book.journal

  abbrev prints : List ℤ
  prints = (state_after p lim (counted book.journal)).prints

  over : IsOver last
  over = is_over p last prints run.outcome run.has.has.ended run.has.over

  is_done : IsOutcome last outcomes.AllDone → answer.status ≡ Done
  is_done all = run.status ∙ done_status p last prints run.outcome run.plain all run.has.has.ended run.has.over run.answers

  is_fault : HasMetFault last → answer.status ≡ Fault
  is_fault met = run.status ∙ fault_status p last prints run.outcome run.plain met run.has.has.ended run.has.over run.answers

-- two runs
pub one_status : (p : Program) (lim : Bounds) (text : List ℕ) → ((q : Program) → Accepted text q → q ≡ p) → ((refusal : Refusal) → ¬ IsRefusal text refusal)
    → ((one other : List Entry) → Legal p lim one → Legal p lim other → IsOver (state_after p lim one) → IsOver (state_after p lim other) → HaveEndedAlike (state_after p lim one) (state_after p lim other))
    → (workers crew : ℕ) (asked also : Bool) (book second : Book) (answer other : Answer) → Due (Run workers lim asked) text book answer → Due (Run crew lim also) text second other
    → answer.status ≡ other.status
one_status p lim text one kept alike workers crew asked also book second answer other due due_too =
    let a = run_of p lim text one kept workers asked book answer due in
    let b = run_of p lim text one kept crew also second other due_too in
    elim (alike book.journal second.journal a.has.has.legal b.has.has.legal (over p lim book answer a) (over p lim second other b)) [
      | inl done ↦ is_done p lim book answer a done.0 ∙ sym (is_done p lim second other b done.1)
      | inr faults ↦ is_fault p lim book answer a faults.0 ∙ sym (is_fault p lim second other b faults.1)
    ]
