-- The failure of a rule of the text refuses the reading of the text.
use Rattle.std.proofs.Common.{ℕ, List}
use Rattle.twe_base.specs.declared.place.Place.{Place}
use Rattle.twe_frontend.specs.declared.read.FrontFail.{FrontFail}
use Rattle.twe_frontend.specs.declared.read.FrontFail.TheVariants.{Refused, OutOfMemory}
use Rattle.twe_frontend.specs.declared.refusal.RuleName.{RuleName}
use Rattle.twe_frontend.specs.declared.refusal.RuleName.TheVariants.{Text, Name, Effect}
use Rattle.twe_frontend.specs.Reads.{IsTextFailure, TreeHasCause}
use Rattle.twe_frontend.specs.meaning.Meaning.{IsRefusedBefore, of_text}
use Rattle.twe_frontend.specs.meaning.Reading.{ReadingHasCause}

text_refused : (text : List ℕ) (rule : RuleName) (place : Place) → IsTextFailure text rule place → IsRefusedBefore text (record { rule = rule; place = place })
text_refused text (Text rule) place fails = of_text rule place fails
text_refused text (Name rule) place none = absurd none
text_refused text (Effect rule) place none = absurd none

pub tree_cause : (text : List ℕ) (fail : FrontFail) → TreeHasCause text fail → ReadingHasCause text fail
tree_cause text (Refused refusal) fails = text_refused text refusal.rule refusal.place fails
tree_cause text (OutOfMemory memory) given = given

-- the cause of an error where the tree is read is one where its meaning is read
pub ruleset refuses_reading = (tree_cause)
