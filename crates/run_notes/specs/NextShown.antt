-- What is said of a run that goes on.
use Rattle.std.specs.Prelude.{◌++◌, ◌==◌, ℕ, List, [], ◌∷◌, Option, None, Some, codes, decimal, if◌then◌else◌, length, slice_get}
use Rattle.std.specs.List.{flat_map}
use Rattle.seg_journal.specs.Spelling.{kind_word}
use Rattle.seg_journal.specs.declared.moves.Kind.{Kind}
use Rattle.seg_journal.specs.declared.moves.Kind.TheVariants.{Admit, Run}
use Rattle.seg_journal.specs.declared.moves.Move.{Move}
use Rattle.twe_base.specs.declared.place.Place.{Place}
use Rattle.twe_program.specs.Program.{Program}
use Rattle.machine_state.specs.declared.state.State.{State}
use Rattle.run_facts.specs.declared.making.TaskMaking.{TaskMaking}
use Rattle.run_facts.specs.Makings.{place_of_row}
use Rattle.explain_pages.specs.declared.places.note.Explanation.{Explanation}
use Rattle.explain_pages.specs.declared.places.note.Note.{Note}
use Rattle.run_notes.specs.Faulted.{notes_if}
use Rattle.run_notes.specs.TaskTexts.{task_shown}
use Rattle.run_notes.specs.Waits.{origin_of}

-- what a move of this kind does with a task that has come to this place, if it has come to one
abbrev pub next_words : Kind → Option Place → List ℕ
next_words Admit stands = codes " comes from here, and may be admitted: "
next_words Run None = codes " comes from here, and may begin: "
next_words Run (Some place) = codes " has come to here, and may go on: "

-- `admit 1`
abbrev pub move_shown : Move → List ℕ
move_shown mv = codes "`" ++ (kind_word mv.kind ++ (decimal mv.task ++ codes "`"))

-- the place to which a task has come, or if it has come to none, that from which it comes
abbrev pub place_or : Option Place → Option Place → Option Place
place_or None origin = origin
place_or (Some place) origin = Some place

-- the task of the move may take it
abbrev pub next_caption : Program → State → Move → Option Place → List ℕ
next_caption p st mv stands = task_shown p st mv.task ++ (next_words mv.kind stands ++ move_shown mv)

-- the same at the place where the task stands
abbrev pub next_notes_at : Program → State → List TaskMaking → Move → Option Place → List Note
next_notes_at p st makings mv stands = notes_if (place_or stands (origin_of p st makings mv.task)) (next_caption p st mv stands)

-- the same at the place where the task of the move stands in this state
abbrev pub next_notes : Program → State → List TaskMaking → Move → List Note
next_notes p st makings mv = next_notes_at p st makings mv (place_of_row p (slice_get st.tasks mv.task))

-- at most 20 legal moves are shown
abbrev pub next_remarks : ℕ → List (List ℕ)
next_remarks count =
    if count == 20 then codes "no more than 20 moves are shown, of the tasks with the lowest numbers" ∷ [] else []

-- what is said of a run that goes on with one of these moves
abbrev pub next_explanation : Program → State → List TaskMaking → List Move → Explanation
next_explanation p st makings moves = record {
  headline = codes "the journal ends here, and each of these moves may come next";
  notes = flat_map (next_notes p st makings) moves;
  remarks = next_remarks (length moves);
}
