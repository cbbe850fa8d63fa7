-- What a run of a program is, and what the book of a call has.
use Rattle.std.specs.Prelude.{◌≡◌, ◌≢◌, ◌≤◌, ℕ, List, [], None, Some, map}
use Rattle.seg_journal.specs.declared.journal.Entry.{Entry}
use Rattle.seg_journal.specs.declared.moves.Move.{Move}
use Rattle.seg_journal.specs.Spelling.{move_of}
use Rattle.twe_base.specs.Limits.{Bounds}
use Rattle.twe_frontend.specs.declared.refusal.Refusal.{Refusal}
use Rattle.twe_program.specs.Program.{Program}
use Rattle.machine_state.specs.declared.ending.Outcome.{Outcome}
use Rattle.machine_state.specs.declared.ending.Outcome.TheVariants.{AllDone, Unfinished}
use Rattle.machine_state.specs.declared.state.State.{State}
use Rattle.machine_state.specs.LowestFirst.{LowestFirst}
use Rattle.machine_state.specs.Runs.{Legal, state_after, IsOutcome, EachOnce, EachAtMostOnce, AlwaysIsolated}
use Rattle.isolation_laws.specs.Conflicts.{AlwaysCovered}
use Rattle.determinism_laws.specs.results.Main.{MainHasItsResult}
use Rattle.determinism_laws.specs.results.Results.{DeterministicTasksHaveResults}
use Rattle.text_answers.specs.declared.book.Book.{Book}

-- if all tasks are done, each was made, enabled and finished exactly once, and else made, admitted and finished at most once
abbrev pub EachOnceIfDone : Outcome → List Entry → State → Type 0
EachOnceIfDone AllDone journal st = EachOnce journal st
EachOnceIfDone _ journal st = EachAtMostOnce journal

-- The book has the program, a legal journal and its outcome: the sequential machine allows each entry of the journal after
-- those before it. If all tasks are done, each was made, enabled and finished exactly once, and else made, admitted and finished
-- at most once. At every moment, of two enabled tasks that interfere, one yields to the other, and each access that a task that
-- may run makes in its next segment is covered for it. Each deterministic task that is done has given the result of its
-- sequential execution on the cells as they were when it was enabled: its value, the cells under its effects, and what was
-- printed. If `main` is deterministic and all tasks are done, the cells, the printed numbers and the number of tasks are those of
-- the sequential execution of `main` on the first cells.
pub record HasJournal (p : Program) (lim : Bounds) (outcome : Outcome) (book : Book) : Type 0 where
  pub program : book.prog ≡ Some p
  pub not_refused : book.refusal ≡ None
  pub legal : Legal p lim book.journal
  pub told : book.outcome ≡ Some outcome
  pub ended : IsOutcome (state_after p lim book.journal) outcome
  pub often : EachOnceIfDone outcome book.journal (state_after p lim book.journal)
  pub isolated : AlwaysIsolated p lim book.journal
  pub covered : AlwaysCovered p lim book.journal
  pub deterministic : DeterministicTasksHaveResults p lim book.journal
  pub of_main : MainHasItsResult p lim book.journal

-- The book has a run of the program by this many workers. The run is over: there was a fault, or no move is legal. Without
-- workers, or with one, its journal is the lowest-first one.
pub record HasRun (p : Program) (lim : Bounds) (workers : ℕ) (outcome : Outcome) (book : Book) : Type 0 where
  pub has : HasJournal p lim outcome book
  pub lowest : workers ≤ 1 → LowestFirst p lim book.journal
  pub over : outcome ≢ Unfinished

-- The book has the replay of these moves.
pub record HasReplay (p : Program) (lim : Bounds) (moves : List Move) (outcome : Outcome) (book : Book) : Type 0 where
  pub has : HasJournal p lim outcome book
  pub replays : map move_of book.journal ≡ moves

-- an empty book
pub record IsNew (book : Book) : Type 0 where
  pub program : book.prog ≡ None
  pub journal : book.journal ≡ []
  pub outcome : book.outcome ≡ None
  pub refusal : book.refusal ≡ None

-- a book with a refusal and nothing else
pub record HasRefusal (refusal : Refusal) (book : Book) : Type 0 where
  pub program : book.prog ≡ None
  pub journal : book.journal ≡ []
  pub outcome : book.outcome ≡ None
  pub refused : book.refusal ≡ Some refusal

-- a book with a program and nothing else
pub record HasProgram (p : Program) (book : Book) : Type 0 where
  pub program : book.prog ≡ Some p
  pub journal : book.journal ≡ []
  pub outcome : book.outcome ≡ None
  pub not_refused : book.refusal ≡ None
