-- What the program answers, and why.
use Rattle.std.specs.Prelude.{ℕ, List}
use Rattle.seg_journal.specs.declared.moves.Move.{Move}
use Rattle.twe_base.specs.Limits.{Bounds}
use Rattle.twe_program.specs.Program.{Program}
use Rattle.machine_state.specs.declared.state.TaskRow.{TaskRow}
use Rattle.twe_report.specs.Causes.{TextCause}
use Rattle.text_answers.specs.Due.{JournalDue}
use Rattle.twe_io.specs.Ends.{Ends, EndsTell, SourceTells}
use Rattle.twe_io.specs.Answers.{IsAnswered, on_out}
use Rattle.twe_io.specs.declared.answer.Answer.{Answer}
use Rattle.twe_io.specs.declared.status.Status.{Status}
use Rattle.twe_io.specs.declared.status.Status.TheVariants.{Done}
use Rattle.held_span.specs.declared.hold.Hold.{Hold}
use Rattle.twe_draw.specs.picture.Pictures.{IsPicture}
use Rattle.twe_draw.specs.declared.picture.bars.EntryBar.{EntryBar}
use Rattle.twe_draw.specs.declared.words.Drawing.{Drawing}
use Rattle.twe_draw.specs.Pages.{IsDrawing}
use Rattle.twe_draw.specs.Words.{draw_usage_text, asked_drawing}

-- The answer, drawn so, to legal moves of an accepted program under these limits.
pub data PictureGiven (drawing : Drawing) (p : Program) (lim : Bounds) (moves : List Move) : Answer → Type 0 where
  -- the run is drawn
  drawn : (work span held : ℕ) (chain : List ℕ) (bars : List EntryBar) (tasks : List TaskRow) (holds : List Hold) (text : List ℕ)
      → IsPicture p lim moves work span held chain bars tasks holds
      → IsDrawing drawing p work span held chain bars tasks holds text
      → PictureGiven drawing p lim moves (on_out Done text)

-- the answer to an input, drawn so: to the text of a program, and after the first line that is exactly `%%` the text of a
-- journal
abbrev pub PictureDue : Drawing → List ℕ → Answer → Type 0
PictureDue drawing input = JournalDue (PictureGiven drawing) input

-- why the program gives an answer, before it writes anything
abbrev pub PictureCause : {S : Type 0} → SourceTells S → List (List ℕ) → S → S → Answer → Type 0
PictureCause tells words = TextCause asked_drawing draw_usage_text PictureDue tells words

-- what a call of the program comes to: an answer that has its cause is written; or memory runs out, and nothing is written
abbrev pub IsDrawnFor : {S O E : Type 0} → EndsTell S O E → List (List ℕ) → Ends S O E → Ends S O E → Status → Type 0
IsDrawnFor tells words before after status = IsAnswered tells (PictureCause tells.src words) before after status
