-- The run of the one text gives a run of the other, with a book of its own.
use Rattle.std.proofs.Common.{◌≡◌, ◌≢◌, ℕ, Bool, List, None, Some, refl, sym, ap, ◌∙◌, subst}
use Rattle.twe_base.specs.Limits.{Bounds}
use Rattle.twe_program.specs.Program.{Program}
use Rattle.twe_frontend.specs.Accepted.{Accepted, IsRefusal}
use Rattle.twe_frontend.specs.declared.refusal.Refusal.{Refusal}
use Rattle.seg_journal.specs.declared.journal.Entry.{Entry}
use Rattle.machine_state.specs.declared.ending.Outcome.{Outcome}
use Rattle.machine_state.specs.declared.ending.Outcome.TheVariants.{AllDone, Fault, Stuck, Unfinished}
use Rattle.machine_state.specs.declared.state.State.{State}
use Rattle.machine_state.specs.Runs.{AllTasksDone, AlwaysIsolated, EachAtMostOnce, EachOnce, IsOutcome, Legal, counted, state_after}
use Rattle.isolation_laws.specs.Conflicts.{AlwaysCovered}
use Rattle.determinism_laws.specs.results.Main.{MainHasItsResult}
use Rattle.determinism_laws.specs.results.Results.{DeterministicTasksHaveResults}
use Rattle.summary_texts.specs.paste_laws.places.Places.{SameButPlaces}
use Rattle.place_laws.specs.Alike.{RunAlike, RunsAs}
use Rattle.place_laws.specs.Bare.{bare_outcome}
use Rattle.command_line.specs.declared.command.Command.TheVariants.{Run}
use Rattle.twe_io.specs.declared.answer.Answer.{Answer}
use Rattle.text_answers.specs.declared.book.Book.{Book}
use Rattle.text_answers.specs.Answers.{AnswersRun, Due, IsAnswerTo, with_journal}
use Rattle.text_answers.specs.Theorem.{EachOnceIfDone, HasRun}
use Rattle.answer_laws.specs.Alike.{SameAnswers}
use Rattle.answer_laws.proofs.AnswersAlike.{answers_alike, with_journal_alike}

-- what a legal journal of an accepted program keeps to
pub record Keeps (q : Program) (lim : Bounds) (journal : List Entry) : Type 0 where
  pub once : AllTasksDone (state_after q lim journal) → EachOnce journal (state_after q lim journal)
  pub at_most_once : EachAtMostOnce journal
  pub isolated : AlwaysIsolated q lim journal
  pub covered : AlwaysCovered q lim journal
  pub deterministic : DeterministicTasksHaveResults q lim journal
  pub of_main : MainHasItsResult q lim journal

often : (q : Program) (lim : Bounds) (journal : List Entry) → Keeps q lim journal → (outcome : Outcome) → IsOutcome (state_after q lim journal) outcome
    → EachOnceIfDone outcome journal (state_after q lim journal)
often q lim journal keeps AllDone is = keeps.once is.1
often q lim journal keeps (Fault task kind place) is = keeps.at_most_once
often q lim journal keeps Stuck is = keeps.at_most_once
often q lim journal keeps Unfinished is = keeps.at_most_once

-- the book of the other run
abbrev book_of : Program → List Entry → Outcome → Book
book_of q journal outcome = record { prog = Some q; journal = journal; outcome = Some outcome; refusal = None }

over_too : (outcome its : Outcome) → bare_outcome its ≡ bare_outcome outcome → outcome ≢ Unfinished → its ≢ Unfinished
over_too outcome its alike over is = over (unfinished_is outcome (sym alike ∙ ap bare_outcome is))
  where
    unfinished_is : (o : Outcome) → bare_outcome o ≡ Unfinished → o ≡ Unfinished
    unfinished_is AllDone same = absurd (cc (same))
    unfinished_is (Fault task kind place) same = absurd (cc (same))
    unfinished_is Stuck same = absurd (cc (same))
    unfinished_is Unfinished same = refl

module _ (p q : Program) (lim : Bounds) (workers : ℕ) (outcome its : Outcome) (book : Book) (has : HasRun p lim workers outcome book)
    (run : RunsAs p q lim book.journal) (keeps : Keeps q lim run.its) (ended : IsOutcome (state_after q lim run.its) its) (alike : bare_outcome its ≡ bare_outcome outcome) where
  has_run : HasRun q lim workers its (book_of q run.its its)
  has_run = record {
    has = record {
      program = refl;
      not_refused = refl;
      legal = run.legal;
      told = refl;
      ended = ended;
      often = often q lim run.its keeps its ended;
      isolated = keeps.isolated;
      covered = keeps.covered;
      deterministic = keeps.deterministic;
      of_main = keeps.of_main;
    };
    lowest = λ few. run.lowest (has.lowest few);
    over = over_too outcome its alike has.over;
  }

module _ (one_program : (text : List ℕ) (p other : Program) → Accepted text p → Accepted text other → p ≡ other)
    (not_refused : (text : List ℕ) (p : Program) (refusal : Refusal) → Accepted text p → ¬ IsRefusal text refusal)
    (text other : List ℕ) (p q : Program) (workers : ℕ) (lim : Bounds) (asked : Bool) (accepted : Accepted text p) (its_accepted : Accepted other q)
    (same : SameButPlaces p q) (run_alike : RunAlike p q) (all_keep : (journal : List Entry) → Legal q lim journal → Keeps q lim journal) where
  -- the answer to the other text
  abbrev pub Answered : Answer → Type 0
  Answered answer = (its : Answer) × IsAnswerTo (Run workers lim asked) other its × SameAnswers answer its

  ran_alike : (book : Book) (outcome : Outcome) (answer : Answer) → HasRun p lim workers outcome book
      → AnswersRun p (state_after p lim book.journal) (state_after p lim (counted book.journal)).prints outcome answer
      → Answered (with_journal asked lim book.journal answer)
  ran_alike book outcome answer has answers =
      let run = (run_alike lim book.journal).0 has.has.legal in
      let (its, ended, alike) = run.outcome outcome has.has.ended in
      let keeps = all_keep run.its run.legal in
      let printed = ap (λ (s : State). s.prints) (sym run.counted_state) in
      let (plain, said, like) =
      answers_alike p q (state_after p lim book.journal) (state_after q lim run.its) (state_after p lim (counted book.journal)).prints
      (state_after q lim (counted run.its)).prints outcome its answer same (sym run.state) printed alike answers in (
        with_journal asked lim run.its plain,
        (
          book_of q run.its its,
          Due.ran workers lim asked q its plain refl its_accepted (has_run p q lim workers outcome its book has run keeps ended alike) said,
        ),
        with_journal_alike asked lim run.its book.journal answer plain run.entries like,
      )

  pub run_answered : (book : Book) (answer : Answer) → Due (Run workers lim asked) text book answer → Answered answer
  run_answered book answer (Due.refused r is has) = absurd (not_refused text p r accepted is)
  run_answered book answer (Due.accepted r command is has) = absurd (cc (command))
  run_answered book answer (Due.replayed used r command is answers) = absurd (cc (command))
  run_answered book answer (Due.loaded crew n r outcome plain command is has answers) = absurd (cc (command))
  run_answered book answer (Due.ran crew used flag r outcome plain command is has answers) =
      let crews : crew ≡ workers = cc (command) in
      let limits : used ≡ lim = cc (command) in
      let flags : flag ≡ asked = cc (command) in
      let program : r ≡ p = one_program text r p is accepted in
      let its_has : HasRun p lim workers outcome book =
      subst (λ (o : Program). HasRun o lim workers outcome book) program
      (subst (λ (l : Bounds). HasRun r l workers outcome book) limits (subst (λ (w : ℕ). HasRun r used w outcome book) crews has)) in
      let said : AnswersRun p (state_after p lim book.journal) (state_after p lim (counted book.journal)).prints outcome plain =
      subst (λ (o : Program). AnswersRun o (state_after o lim book.journal) (state_after o lim (counted book.journal)).prints outcome plain) program
      (subst (λ (l : Bounds). AnswersRun r (state_after r l book.journal) (state_after r l (counted book.journal)).prints outcome plain) limits answers) in
      subst (λ (l : Bounds). Answered (with_journal flag l book.journal plain)) (sym limits)
      (subst (λ (b : Bool). Answered (with_journal b lim book.journal plain)) (sym flags) (ran_alike book outcome plain its_has said))
