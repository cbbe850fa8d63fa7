-- What is said of a move that is not legal.
use Rattle.std.specs.Prelude.{◌≡◌, ◌++◌, ℕ, List, [], ◌∷◌, Option, None, Some, codes, decimal, length, slice_get}
use Rattle.seg_journal.specs.declared.moves.Move.{Move}
use Rattle.twe_base.specs.Limits.{Bounds}
use Rattle.twe_program.specs.Program.{Program}
use Rattle.machine_state.specs.declared.why.Why.{Why}
use Rattle.machine_state.specs.declared.why.Why.TheVariants.{NoTask, NotMade, HeldBy, NotEnabled, WaitsFor}
use Rattle.machine_state.specs.declared.state.State.{State}
use Rattle.machine_state.specs.declared.state.TaskRow.{TaskRow}
use Rattle.machine_state.specs.declared.state.TaskStatus.{TaskStatus}
use Rattle.machine_state.specs.declared.state.TaskStatus.TheVariants.{Made, Enabled, Done, Faulted}
use Rattle.machine_state.specs.Replays.{IsFirstIllegal}
use Rattle.machine_state.specs.Runs.{state_after}
use Rattle.run_facts.specs.declared.making.TaskMaking.{TaskMaking}
use Rattle.run_facts.specs.Makings.{makings_of}
use Rattle.explain_pages.specs.declared.places.note.Explanation.{Explanation}
use Rattle.explain_pages.specs.declared.places.note.Note.{Note}
use Rattle.explain_pages.specs.declared.wanted.Wanted.{Wanted}
use Rattle.run_notes.specs.Faulted.{notes_if}
use Rattle.explain_pages.specs.RunPage.{run_text}
use Rattle.run_notes.specs.TaskTexts.{task_shown}
use Rattle.run_notes.specs.Waits.{held_notes, held_rule, origin_of, wait_notes}

-- why the move is not legal
abbrev pub forbidden_headline : Why → List ℕ
forbidden_headline NoTask = codes "there is no such task"
forbidden_headline NotMade = codes "the task does not wait for its admission"
forbidden_headline (HeldBy holder) = codes "the task is held"
forbidden_headline NotEnabled = codes "the task is not enabled"
forbidden_headline (WaitsFor other) = codes "the task waits for another one"

-- what there is to say of a task with this status
abbrev pub status_words : TaskStatus → List ℕ
status_words Made = codes " comes from here, and waits for its admission"
status_words Enabled = codes " comes from here, and is enabled already"
status_words Done = codes " comes from here, and is done"
status_words Faulted = codes " comes from here, and has met a fault"

-- the same of a task that was looked up
abbrev pub status_of_row : Option TaskRow → List ℕ
status_of_row None = []
status_of_row (Some row) = status_words row.status

-- what a task is about
abbrev pub status_caption : Program → State → ℕ → List ℕ
status_caption p st task = task_shown p st task ++ status_of_row (slice_get st.tasks task)

-- the same at the place from which it comes
abbrev pub status_notes : Program → State → List TaskMaking → ℕ → List Note
status_notes p st makings task = notes_if (origin_of p st makings task) (status_caption p st task)

-- the task of a move, and the task that is in its way
abbrev pub forbidden_notes : Program → State → List TaskMaking → ℕ → Why → List Note
forbidden_notes p st makings task NoTask = []
forbidden_notes p st makings task NotMade = status_notes p st makings task
forbidden_notes p st makings task (HeldBy holder) = held_notes p st makings task holder
forbidden_notes p st makings task NotEnabled = status_notes p st makings task
forbidden_notes p st makings task (WaitsFor other) = wait_notes p st task other

-- what would have to be so
abbrev pub forbidden_remark : State → Why → List ℕ
forbidden_remark st NoTask =
    codes "tasks are numbered from 0 as they are made; so many there are before this move: " ++ decimal (length st.tasks)
forbidden_remark st NotMade = codes "a task is admitted once; a spawned one is enabled as it is made"
forbidden_remark st (HeldBy holder) = held_rule
forbidden_remark st NotEnabled = codes "a task runs after its admission, and until it is done"
forbidden_remark st (WaitsFor other) = codes "a task that waits goes on when the other one is done"

-- what is said of a move of this task that is not legal in a state
abbrev pub forbidden_explanation : Program → State → List TaskMaking → ℕ → Why → Explanation
forbidden_explanation p st makings task why = record {
  headline = forbidden_headline why;
  notes = forbidden_notes p st makings task why;
  remarks = forbidden_remark st why ∷ [];
}

-- This is written of the first of the moves that is not legal, whose line of `twe replay` is the answer: what is said of it in
-- the state before it.
pub record IllegalTold (wanted : Wanted) (text : List ℕ) (p : Program) (lim : Bounds) (moves : List Move) (n : ℕ) (why : Why)
    (answer page : List ℕ) : Type 0 where
  pub first : IsFirstIllegal p lim moves n why
  pub same : page ≡ run_text wanted text answer
      (forbidden_explanation p (state_after p lim first.before) (makings_of p lim first.before) first.mv.task why)
