-- The refusal of a text that ends too early.
use Rattle.std.proofs.Common.{◌≡◌, true, ℕ, List}
use Rattle.std.proofs.lemmas.Bool.{false≢true}
use Rattle.twe_base.specs.declared.place.Place.{Place}
use Rattle.twe_parser.specs.declared.fail.SRule.{SRule}
use Rattle.twe_parser.specs.declared.fail.SRule.TheVariants.{S1, S2, S3, S4, S5, S6}
use Rattle.twe_parser.specs.Fails.{IsSyntaxFailure}
use Rattle.twe_frontend.specs.declared.refusal.Refusal.{Refusal}
use Rattle.twe_frontend.specs.declared.refusal.RuleName.TheVariants as names
use Rattle.twe_frontend.specs.Accepted.{IsRefusal}
use Rattle.refusal_causes.specs.NextTokens.{is_of_end}

by_rule : (text : List ℕ) (rule : SRule) (place : Place) → IsSyntaxFailure text rule place → is_of_end (names.Text rule) ≡ true → IsSyntaxFailure text S3 place
by_rule text S1 place fails ended = absurd (false≢true ended)
by_rule text S2 place fails ended = absurd (false≢true ended)
by_rule text S3 place fails ended = fails
by_rule text S4 place fails ended = absurd (false≢true ended)
by_rule text S5 place fails ended = absurd (false≢true ended)
by_rule text S6 place fails ended = absurd (false≢true ended)

-- the text ends too early before any other rule fails
pub ends_early : (text : List ℕ) (refusal : Refusal) → IsRefusal text refusal → is_of_end refusal.rule ≡ true → IsSyntaxFailure text S3 refusal.place
ends_early text refusal (IsRefusal.of_text rule place fails) ended = by_rule text rule place fails ended
ends_early text refusal (IsRefusal.of_names tree rule place parsed fails) ended = absurd (false≢true ended)
ends_early text refusal (IsRefusal.of_effects p rule place meant fails) ended = absurd (false≢true ended)
