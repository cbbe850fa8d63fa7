-- The rules of the text, and the places where a text fails them.
use Rattle.std.specs.Prelude.{◌≡◌, ℕ, ◌≤◌, ◌⊎◌, true, false, List, [], ◌∷◌, ◌++◌}
use Rattle.twe_base.specs.declared.place.Place.{Place}
use Rattle.twe_lexer.specs.declared.token.Token.{Token}
use Rattle.twe_lexer.specs.Lexeme.{is_allowed, IsUnclosedComment}
use Rattle.twe_lexer.specs.Places.{place_after, Precedes}
use Rattle.twe_lexer.specs.Tokens.{BeginsWith}
use Rattle.twe_parser.specs.declared.fail.SRule.{SRule}
use Rattle.twe_parser.specs.declared.fail.SRule.TheVariants.{S1, S2, S3, S4, S5, S6}
use Rattle.twe_parser.specs.declared.fail.ParseFail.{ParseFail}
use Rattle.twe_parser.specs.declared.fail.ParseFail.TheVariants as fails
use Rattle.twe_parser.specs.Limits.{sofar_of, is_too_large, is_too_deep}
use Rattle.twe_parser.specs.Viable.{IsProgram, IsViable}

-- The text fails this rule at this place.
pub data Fails (text : List ℕ) : SRule → Place → Type 0 where
  -- a byte that is not allowed in a text
  byte : (before after : List ℕ) (code : ℕ)
      → text ≡ before ++ code ∷ after → is_allowed code ≡ false → Fails text S1 (place_after before)
  -- a token such that a program begins with the tokens before it, but none begins with those up to it
  stray : (before : List Token) (token : Token) (rest : List ℕ)
      → BeginsWith text (before ++ token ∷ []) rest → IsViable before → ¬ IsViable (before ++ token ∷ [])
      → Fails text S2 token.place
  -- the end of the text, if a program begins with its tokens but they are not a whole program
  unfinished : (tokens : List Token)
      → BeginsWith text tokens [] → IsViable tokens → ¬ IsProgram tokens → Fails text S3 (place_after text)
  -- a literal that is too large
  too_large : (before : List Token) (token : Token) (rest : List ℕ)
      → BeginsWith text (before ++ token ∷ []) rest → is_too_large (sofar_of before) token.kind ≡ true → Fails text S4 token.place
  -- one open bracket too many, or one operator too many
  too_deep : (before : List Token) (token : Token) (rest : List ℕ)
      → BeginsWith text (before ++ token ∷ []) rest → is_too_deep (sofar_of before) token.kind ≡ true → Fails text S5 token.place
  -- a comment without an end
  unclosed : (before rest : List ℕ) (tokens : List Token)
      → text ≡ before ++ rest → BeginsWith text tokens rest → IsUnclosedComment rest → Fails text S6 (place_after before)

-- the number of a rule
abbrev pub rule_rank : SRule → ℕ
rule_rank S1 = 1
rule_rank S2 = 2
rule_rank S3 = 3
rule_rank S4 = 4
rule_rank S5 = 5
rule_rank S6 = 6

-- the first failure is reported rather than the second: its place is earlier, or the same and its rule has no higher number
abbrev pub ComesFirst : SRule → Place → SRule → Place → Type 0
ComesFirst rule place other its = Precedes place its ⊎ ((place ≡ its) × (rule_rank rule ≤ rule_rank other))

-- the failure that is reported: the first one
pub record IsSyntaxFailure (text : List ℕ) (rule : SRule) (place : Place) : Type 0 where
  pub fails : Fails text rule place
  pub first : (other : SRule) (its : Place) → Fails text other its → ComesFirst rule place other its

-- What a refusal of a text says: a rule and a place are those of the first failure. One for want of memory says nothing.
abbrev pub Refuses : ParseFail → List ℕ → Type 0
Refuses (fails.Syntax rule place) text = IsSyntaxFailure text rule place
Refuses (fails.OutOfMemory memory) text = Unit {0}
