-- The tokens that may stand at a place of a text.
use Rattle.std.specs.Prelude.{◌≡◌, ◌<◌, ◌≤◌, ℕ, Bool, true, false, List, [], ◌∷◌, ◌++◌, length, map, take, codes}
use Rattle.twe_base.specs.declared.place.Place.{Place}
use Rattle.twe_ast.specs.declared.item.Ast.{Ast}
use Rattle.twe_lexer.specs.Places.{place_after}
use Rattle.twe_lexer.specs.Spelling.{every_fixed, spelling}
use Rattle.twe_parser.specs.declared.fail.SRule.{SRule}
use Rattle.twe_parser.specs.declared.fail.SRule.TheVariants.{S1, S2, S3, S4, S5, S6}
use Rattle.twe_parser.specs.Fails.{IsSyntaxFailure}
use Rattle.twe_frontend.specs.declared.refusal.RuleName.{RuleName}
use Rattle.twe_frontend.specs.declared.refusal.RuleName.TheVariants as names
use Rattle.twe_frontend.specs.Accepted.{IsTreeOf}
use Rattle.refusal_causes.specs.declared.next_tokens.NextToken.{NextToken}
use Rattle.refusal_causes.specs.declared.next_tokens.NextToken.TheVariants.{Name, Number, Fixed}

-- all tokens: a name, a number, and each keyword and symbol
abbrev pub every_token : List NextToken
every_token = Name ∷ Number ∷ map Fixed every_fixed

-- how a token is tried
abbrev pub token_text : NextToken → List ℕ
token_text Name = codes "name"
token_text Number = codes "0"
token_text (Fixed token) = spelling token

-- the beginning of a text with the token on a new line behind it
abbrev pub tried : List ℕ → NextToken → List ℕ
tried before token = before ++ 10 ∷ token_text token

-- the rule is the one of texts that end too early
abbrev pub is_of_end : RuleName → Bool
is_of_end (names.Text S1) = false
is_of_end (names.Text S2) = false
is_of_end (names.Text S3) = true
is_of_end (names.Text S4) = false
is_of_end (names.Text S5) = false
is_of_end (names.Text S6) = false
is_of_end (names.Name rule) = false
is_of_end (names.Effect rule) = false

-- the text is a program by the rules of the text, or the beginning of one: it only ends too early
pub data BeginsAProgram (text : List ℕ) : Type 0 where
  whole : (tree : Ast) → IsTreeOf text tree → BeginsAProgram text
  begun : (place : Place) → IsSyntaxFailure text S3 place → BeginsAProgram text

-- the first failure of a rule of the text is another than that it ends too early
pub record IsBroken (text : List ℕ) : Type 0 where
  pub rule : SRule
  pub place : Place
  pub fails : IsSyntaxFailure text rule place
  pub other : is_of_end (names.Text rule) ≡ false

-- whether the text is a program or the beginning of one
abbrev pub Decides : List ℕ → Bool → Type 0
Decides text true = BeginsAProgram text
Decides text false = IsBroken text

-- Of these tokens, those that may stand behind this beginning of a text, in their order.
pub data AreNextAmong (before : List ℕ) : List NextToken → List NextToken → Type 0 where
  none : AreNextAmong before [] []
  may : (token : NextToken) (others found : List NextToken) → BeginsAProgram (tried before token)
      → AreNextAmong before others found → AreNextAmong before (token ∷ others) (token ∷ found)
  may_not : (token : NextToken) (others found : List NextToken) → IsBroken (tried before token)
      → AreNextAmong before others found → AreNextAmong before (token ∷ others) found

-- no beginning of the text has the place behind it
abbrev pub IsNowhere : List ℕ → Place → Type 0
IsNowhere text place = (count : ℕ) → count ≤ length text → ¬ (place_after (take count text) ≡ place)

-- so many bytes at most may come before a place if the tokens that may stand there are looked for
abbrev pub max_tried : ℕ
max_tried = 65536

-- The tokens that may stand at this place of the text. They are looked for if at most as many bytes as are tried come before the
-- place; with more bytes before it none are given, nor if no byte of the text has the place, nor its end.
pub data AreNextAt (text : List ℕ) (place : Place) : List NextToken → Type 0 where
  behind : (count : ℕ) (found : List NextToken) → count ≤ length text → place_after (take count text) ≡ place
      → count ≤ max_tried → AreNextAmong (take count text) every_token found → AreNextAt text place found
  too_long : (count : ℕ) → count ≤ length text → place_after (take count text) ≡ place
      → max_tried < count → AreNextAt text place []
  nowhere : IsNowhere text place → AreNextAt text place []
