-- Why a rule of the text fails at a place, so that it is true of the text.
use Rattle.std.specs.Prelude.{◌≡◌, ◌<◌, ◌+◌, ℕ, Bool, true, false, List, [], ◌∷◌, ◌++◌}
use Rattle.twe_base.specs.Language.{max_literal, max_open_brackets, max_operators}
use Rattle.twe_base.specs.declared.place.Place.{Place}
use Rattle.twe_lexer.specs.declared.token.Token.{Token}
use Rattle.twe_lexer.specs.declared.token.TokenKind.TheVariants.{Literal}
use Rattle.twe_lexer.specs.Lexeme.{is_allowed, IsUnclosedComment}
use Rattle.twe_lexer.specs.Places.{place_after}
use Rattle.twe_lexer.specs.Tokens.{BeginsWith}
use Rattle.twe_parser.specs.declared.fail.SRule.{SRule}
use Rattle.twe_parser.specs.declared.fail.SRule.TheVariants.{S1, S2, S3, S4, S5, S6}
use Rattle.twe_parser.specs.Limits.{is_operator, opens, sofar_of}
use Rattle.refusal_causes.specs.declared.text_rules.cause.TextCause.{TextCause}
use Rattle.refusal_causes.specs.declared.text_rules.cause.TextCause.TheVariants.{Byte, NumberTooLarge, NumberNotNegative, BracketTooMany, OperatorTooMany, CommentUnclosed}

-- the rule fails at a byte, a number, a bracket, an operator or a comment
abbrev pub has_cause : SRule → Bool
has_cause S1 = true
has_cause S2 = false
has_cause S3 = false
has_cause S4 = true
has_cause S5 = true
has_cause S6 = true

-- The cause of the failure of a rule of the text at a place: what is said of the byte or the token is true of the one there.
pub data IsTextCause (text : List ℕ) : SRule → Place → TextCause → Type 0 where
  -- this byte, which is not allowed
  byte : (before after : List ℕ) (code : ℕ) → text ≡ before ++ code ∷ after → is_allowed code ≡ false
      → IsTextCause text S1 (place_after before) (Byte code)
  -- a number that is larger than the one after the largest literal
  too_large : (before : List Token) (token : Token) (rest : List ℕ) (value : ℕ) → BeginsWith text (before ++ token ∷ []) rest
      → token.kind ≡ Literal value → max_literal + 1 < value → IsTextCause text S4 token.place NumberTooLarge
  -- the number after the largest literal, if the token before it is no unary minus
  not_negative : (before : List Token) (token : Token) (rest : List ℕ) → BeginsWith text (before ++ token ∷ []) rest
      → token.kind ≡ Literal (max_literal + 1) → (sofar_of before).unary_minus ≡ false
      → IsTextCause text S4 token.place NumberNotNegative
  -- an opening bracket, if as many brackets are open before it as may be
  bracket : (before : List Token) (token : Token) (rest : List ℕ) → BeginsWith text (before ++ token ∷ []) rest
      → opens token.kind ≡ true → (sofar_of before).open_brackets ≡ max_open_brackets
      → IsTextCause text S5 token.place BracketTooMany
  -- an operator inside brackets, if its statement has as many before it as it may have
  operator : (before : List Token) (token : Token) (rest : List ℕ) → BeginsWith text (before ++ token ∷ []) rest
      → is_operator token.kind ≡ true → 0 < (sofar_of before).open_brackets → (sofar_of before).operators ≡ max_operators
      → IsTextCause text S5 token.place OperatorTooMany
  -- a comment behind which no `*/` comes
  comment : (before rest : List ℕ) (tokens : List Token) → text ≡ before ++ rest → BeginsWith text tokens rest
      → IsUnclosedComment rest → IsTextCause text S6 (place_after before) CommentUnclosed
