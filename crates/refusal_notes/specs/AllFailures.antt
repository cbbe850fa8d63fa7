-- What the program answers to a text of which all failures of the rules on effects are wanted.
use Rattle.std.specs.Prelude.{◌≡◌, ◌<◌, ◌≤◌, ℕ, Bool, true, false, List, [], ◌∷◌, ◌++◌, length, codes, if◌then◌else◌}
use Rattle.twe_ast.specs.declared.item.Ast.{Ast}
use Rattle.twe_program.specs.Program.{Program}
use Rattle.twe_names.specs.Meaning.{program_of}
use Rattle.twe_frontend.specs.declared.refusal.Refusal.{Refusal}
use Rattle.twe_frontend.specs.declared.refusal.RuleName.TheVariants.{Effect}
use Rattle.twe_frontend.specs.Accepted.{Accepted, IsMeaningOf, IsRefusal, IsTreeOf}
use Rattle.refusal_causes.specs.declared.found.CausedFailure.{CausedFailure}
use Rattle.refusal_causes.specs.Explained.{is_of_effects}
use Rattle.refusal_causes.specs.Listing.{AreAllCauses}
use Rattle.twe_io.specs.declared.answer.Answer.{Answer}
use Rattle.twe_io.specs.declared.status.Status.TheVariants.{Refused}
use Rattle.twe_io.specs.Answers.{on_out}
use Rattle.refusal_notes.specs.Answers.{ExplainDue, caused_explanation}
use Rattle.explain_pages.specs.Page.{refused_text}
use Rattle.explain_pages.specs.declared.wanted.Wanted.{Wanted}

-- the refusal that the failure would be if it were the only one
abbrev pub refusal_of : CausedFailure → Refusal
refusal_of failure = record { rule = Effect failure.rule; place = failure.place }

-- what is said of one of several failures: its cause, and no edits, since none mends all of them
abbrev pub failure_page : Wanted → List ℕ → Ast → Program → CausedFailure → List ℕ
failure_page wanted text tree p failure =
    refused_text wanted text (refusal_of failure) (caused_explanation (refusal_of failure) failure.cause tree p)

-- an empty line between two pages, and nothing between lines for editors
abbrev pub gap : Wanted → List ℕ
gap wanted = if wanted.lines then [] else codes "\n"

-- each of these after a gap
abbrev pub later_pages : Wanted → List ℕ → Ast → Program → List CausedFailure → List ℕ
later_pages wanted text tree p [] = []
later_pages wanted text tree p (failure ∷ failures) =
    gap wanted ++ (failure_page wanted text tree p failure ++ later_pages wanted text tree p failures)

-- what is said of these failures, one after another
abbrev pub all_pages : Wanted → List ℕ → Ast → Program → List CausedFailure → List ℕ
all_pages wanted text tree p [] = []
all_pages wanted text tree p (failure ∷ failures) =
    failure_page wanted text tree p failure ++ later_pages wanted text tree p failures

-- The answer to a text of which all failures are wanted. The status is that of `twe check`.
pub data AllDue (wanted : Wanted) (text : List ℕ) : Answer → Type 0 where
  -- the text is accepted, and the answer is as ever
  accepted : {answer : Answer} (p : Program) → Accepted text p → ExplainDue wanted text answer → AllDue wanted text answer
  -- it is refused by a rule of the text or of names, after which no other is looked at, and the answer is as ever
  early : {answer : Answer} (refusal : Refusal) → IsRefusal text refusal → is_of_effects refusal.rule ≡ false
      → ExplainDue wanted text answer → AllDue wanted text answer
  -- it fails one rule on effects at one place, and the answer is as ever, with edits that mend it
  single : {answer : Answer} (p : Program) (failures : List CausedFailure) → IsMeaningOf text p → AreAllCauses p failures
      → length failures ≤ 1 → ExplainDue wanted text answer → AllDue wanted text answer
  -- it fails several rules on effects, or one at several places, and each is explained, in the order of the text
  several : (p : Program) (tree : Ast) (failures : List CausedFailure) → IsTreeOf text tree → IsMeaningOf text p
      → p ≡ program_of tree → AreAllCauses p failures → 1 < length failures
      → AllDue wanted text (on_out Refused (all_pages wanted text tree p failures))

-- the answer to a text, if all failures are wanted, and if the first one is
abbrev pub AskedDue : Bool → Wanted → List ℕ → Answer → Type 0
AskedDue true wanted text answer = AllDue wanted text answer
AskedDue false wanted text answer = ExplainDue wanted text answer
