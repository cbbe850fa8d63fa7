-- A text and its layout run alike, and are answered alike.
use Rattle.std.proofs.Common.{◌≡◌, ◌≤◌, ℕ, Bool, List, length, sym, subst}
use Rattle.twe_base.specs.Language.{max_text_bytes}
use Rattle.twe_base.specs.Limits.{Bounds}
use Rattle.twe_program.specs.Program.{Program}
use Rattle.text_layout.specs.InLayout.{IsInLayout}
use Rattle.twe_frontend.specs.Accepted.{Accepted}
use Rattle.summary_texts.specs.paste_laws.places.Places.{SameButPlaces}
use Rattle.command_line.specs.declared.command.Command.TheVariants.{Run}
use Rattle.twe_io.specs.declared.answer.Answer.{Answer}
use Rattle.text_answers.specs.Answers.{IsAnswerTo}
use Rattle.answer_laws.specs.Alike.{SameAnswers}

-- the layout of an accepted text is accepted, with the same program but for places
abbrev pub LaidAccepted : Type 0
LaidAccepted = (text laid : List ℕ) (p : Program) → Accepted text p → IsInLayout text laid → (q : Program) × Accepted laid q × SameButPlaces p q

-- a text has one program
abbrev pub OneProgram : Type 0
OneProgram = (text : List ℕ) (p other : Program) → Accepted text p → Accepted text other → p ≡ other

-- runs of texts whose programs are equal but for places are answered alike
abbrev pub AnsweredAlike : Type 0
AnsweredAlike =
    (text other : List ℕ) (p q : Program) (workers : ℕ) (lim : Bounds) (asked : Bool) (answer : Answer) → Accepted text p → Accepted other q → SameButPlaces p q
    → length other ≤ max_text_bytes → 1 ≤ lim.tasks → IsAnswerTo (Run workers lim asked) text answer
    → (its : Answer) × IsAnswerTo (Run workers lim asked) other its × SameAnswers answer its

module _ (laid_accepted : LaidAccepted) where
  pub same_programs : OneProgram → (text laid : List ℕ) (p q : Program) → Accepted text p → IsInLayout text laid → Accepted laid q → SameButPlaces p q
  same_programs one text laid p q accepted in_layout its =
      let found = laid_accepted text laid p accepted in_layout in subst (SameButPlaces p) (one laid found.0 q found.1 its) found.2

  module _ (alike : AnsweredAlike) (text laid : List ℕ) (p : Program) (workers : ℕ) (lim : Bounds) (asked : Bool) (answer : Answer) (accepted : Accepted text p)
      (in_layout : IsInLayout text laid) where
    pub laid_answered : length laid ≤ max_text_bytes → 1 ≤ lim.tasks → IsAnswerTo (Run workers lim asked) text answer
        → (its : Answer) × IsAnswerTo (Run workers lim asked) laid its × SameAnswers answer its
    laid_answered short some given =
        let found = laid_accepted text laid p accepted in_layout in alike text laid p found.0 workers lim asked answer accepted found.1 found.2 short some given

    pub text_answered : length text ≤ max_text_bytes → 1 ≤ lim.tasks → IsAnswerTo (Run workers lim asked) laid answer
        → (its : Answer) × IsAnswerTo (Run workers lim asked) text its × SameAnswers answer its
    text_answered short some given =
        let found = laid_accepted text laid p accepted in_layout in alike laid text found.0 p workers lim asked answer found.1 accepted (sym found.2) short some given
