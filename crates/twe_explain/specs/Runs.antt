-- The answer to a text that is to be run.
use Rattle.std.specs.Prelude.{ℕ, Bool, List}
use Rattle.twe_base.specs.Limits.{Bounds}
use Rattle.twe_program.specs.Program.{Program}
use Rattle.twe_frontend.specs.Accepted.{Accepted, IsRefusal}
use Rattle.twe_frontend.specs.declared.refusal.Refusal.{Refusal}
use Rattle.machine_state.specs.Runs.{state_after}
use Rattle.machine_state.specs.declared.ending.Outcome.{Outcome}
use Rattle.text_answers.specs.Theorem.{HasRun}
use Rattle.text_answers.specs.declared.book.Book.{Book}
use Rattle.twe_io.specs.declared.answer.Answer.{Answer}
use Rattle.explain_pages.specs.declared.wanted.Wanted.{Wanted}
use Rattle.refusal_notes.specs.AllFailures.{AskedDue}
use Rattle.run_notes.specs.Journals.{RunTold}

-- The answer to a text that is to be run under these limits. Its status is that of `twe run` without workers.
pub data RunDue (all : Bool) (wanted : Wanted) (text : List ℕ) (lim : Bounds) : Answer → Type 0 where
  -- the text is refused, as `twe run` says, and the answer is that to the text alone
  refused : {answer : Answer} (r : Refusal) → IsRefusal text r → AskedDue all wanted text answer
      → RunDue all wanted text lim answer
  -- the text is accepted, the book has the run of its program that `twe run` without workers makes, and the
  -- state that this run leads to is explained
  ran : {answer : Answer} (p : Program) (outcome : Outcome) (book : Book) → Accepted text p → HasRun p lim 0 outcome book
      → RunTold wanted text p lim book.journal (state_after p lim book.journal) answer
      → RunDue all wanted text lim answer
