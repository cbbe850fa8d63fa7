-- A rule of the text, of tokens, and a rule of names are none on effects.
use Rattle.std.proofs.Common.{◌≡◌, ℕ, List, true, false, refl}
use Rattle.std.proofs.lemmas.Bool.{false≢true}
use Rattle.twe_frontend.specs.declared.refusal.RuleName.{RuleName}
use Rattle.twe_frontend.specs.declared.refusal.RuleName.TheVariants.{Text, Name, Effect}
use Rattle.twe_base.specs.declared.place.Place.{Place}
use Rattle.refusal_causes.specs.declared.text_rules.cause.TextCause.{TextCause}
use Rattle.refusal_causes.specs.Explained.{IsTextCauseOf, is_of_effects, is_of_names, is_of_tokens}

pub of_text : (text : List ℕ) (rule : RuleName) (place : Place) (cause : TextCause) → IsTextCauseOf text rule place cause → is_of_effects rule ≡ false
of_text text (Text rule) place cause is = refl
of_text text (Name rule) place cause is = absurd is
of_text text (Effect rule) place cause is = absurd is

pub of_tokens : (rule : RuleName) → is_of_tokens rule ≡ true → is_of_effects rule ≡ false
of_tokens (Text rule) is = refl
of_tokens (Name rule) is = refl
of_tokens (Effect rule) is = absurd (false≢true is)

pub of_names : (rule : RuleName) → is_of_names rule ≡ true → is_of_effects rule ≡ false
of_names (Text rule) is = refl
of_names (Name rule) is = refl
of_names (Effect rule) is = absurd (false≢true is)
