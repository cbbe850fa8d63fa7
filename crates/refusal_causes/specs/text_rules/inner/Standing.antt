-- A token at a place of a text.
use Rattle.std.specs.Prelude.{◌≡◌, ◌+◌, ℕ, Bool, false, List, ◌==◌, if◌then◌else◌}
use Rattle.twe_base.specs.Language.{max_literal}
use Rattle.twe_base.specs.declared.place.Place.{Place}
use Rattle.twe_lexer.specs.declared.token.TokenKind.{TokenKind}
use Rattle.twe_lexer.specs.declared.token.TokenKind.TheVariants.{Literal}
use Rattle.twe_lexer.specs.Front.{StopsAt}
use Rattle.twe_lexer.specs.Lexeme.{IsFirstLexeme}
use Rattle.twe_lexer.specs.Places.{is_gap, place_after}
use Rattle.twe_lexer.specs.Tokens.{AreFirstLexemes}
use Rattle.twe_parser.specs.inner.Reading.{concat}
use Rattle.refusal_causes.specs.declared.text_rules.cause.TextCause.{TextCause}
use Rattle.refusal_causes.specs.declared.text_rules.cause.TextCause.TheVariants.{NumberTooLarge, NumberNotNegative, BracketTooMany, OperatorTooMany}

-- behind these lexemes of the text a token stands at the place, and no byte there that is not allowed
pub record StandsAt (text : List ℕ) (place : Place) : Type 0 where
  pub skipped : List (List ℕ)
  pub bytes : List ℕ
  pub middle : List ℕ
  pub later : List ℕ
  pub cut : AreFirstLexemes skipped text middle
  pub at : place ≡ place_after (concat skipped)
  pub first : IsFirstLexeme bytes middle later
  pub token : is_gap bytes ≡ false
  pub fine : (n : ℕ) → ¬ StopsAt n middle

-- the number after the largest literal
abbrev pub is_next : TokenKind → Bool
is_next (Literal value) = value == max_literal + 1
is_next _ = false

-- why a number is too large, by whether it is that one
abbrev pub number_cause : Bool → TextCause
number_cause next = if next then NumberNotNegative else NumberTooLarge

-- of what there is one too many, by whether the token opens a bracket
abbrev pub depth_cause : Bool → TextCause
depth_cause opening = if opening then BracketTooMany else OperatorTooMany
