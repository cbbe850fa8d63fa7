-- The failure of a rule of the text is the refusal of the text.
use Rattle.std.proofs.Common.{◌≡◌, true, false, ℕ, List, refl, sym}
use Rattle.std.proofs.lemmas.Bool.{false≢true}
use Rattle.twe_base.specs.declared.place.Place.{Place}
use Rattle.twe_frontend.specs.declared.refusal.RuleName.{RuleName}
use Rattle.twe_frontend.specs.declared.refusal.RuleName.TheVariants.{Text, Name, Effect}
use Rattle.twe_frontend.specs.Accepted.{IsRefusal}
use Rattle.twe_frontend.specs.Reads.{IsTextFailure}
use Rattle.twe_parser.specs.declared.fail.SRule.{SRule}
use Rattle.twe_parser.specs.declared.fail.SRule.TheVariants.{S1, S2, S3, S4, S5, S6}
use Rattle.refusal_causes.specs.NextTokens.{BeginsAProgram, Decides, is_of_end}
use Rattle.refusal_causes.specs.text_rules.Causes.{has_cause}
use Rattle.refusal_causes.specs.Explained.{is_of_tokens}

pub text_refused : (text : List ℕ) (rule : RuleName) (place : Place) → IsTextFailure text rule place
    → IsRefusal text (record { rule = rule; place = place })
text_refused text (Text rule) place fails = IsRefusal.of_text rule place fails
text_refused text (Name rule) place none = absurd none
text_refused text (Effect rule) place none = absurd none

pub decided : (text : List ℕ) (rule : RuleName) (place : Place) → IsTextFailure text rule place → Decides text (is_of_end rule)
decided text (Text S1) place fails = record { rule = S1; place = place; fails = fails; other = refl }
decided text (Text S2) place fails = record { rule = S2; place = place; fails = fails; other = refl }
decided text (Text S3) place fails = BeginsAProgram.begun place fails
decided text (Text S4) place fails = record { rule = S4; place = place; fails = fails; other = refl }
decided text (Text S5) place fails = record { rule = S5; place = place; fails = fails; other = refl }
decided text (Text S6) place fails = record { rule = S6; place = place; fails = fails; other = refl }
decided text (Name rule) place none = absurd none
decided text (Effect rule) place none = absurd none

-- a rule of the text that is none of tokens has a cause
pub caused : (rule : SRule) → is_of_tokens (Text rule) ≡ false → has_cause rule ≡ true
caused S1 early = refl
caused S2 early = absurd (false≢true (sym early))
caused S3 early = absurd (false≢true (sym early))
caused S4 early = refl
caused S5 early = refl
caused S6 early = refl
