-- A walk through a text.
use Rattle.std.specs.Prelude.{◌≡◌, ℕ, List, [], ◌++◌, Option, None, Some}
use Rattle.twe_base.specs.declared.place.Place.{Place}
use Rattle.twe_lexer.specs.declared.lexeme.Lexeme.{Lexeme}
use Rattle.twe_lexer.specs.declared.token.TokenKind.{TokenKind}
use Rattle.twe_lexer.specs.Front.{Opens, StopsAt}
use Rattle.twe_lexer.specs.Lexeme.{IsUnclosedComment}
use Rattle.twe_lexer.specs.Places.{place_after}
use Rattle.twe_lexer.specs.Tokens.{AreFirstLexemes, tokens_from}
use Rattle.twe_parser.specs.inner.Reading.{concat}
use Rattle.refusal_causes.specs.text_rules.Open.{open_after, open_of}
use Rattle.refusal_causes.specs.declared.text_rules.walk.BracketWalk.{BracketWalk}

-- the brackets that are open after one more lexeme, which is a token of this kind, or none
abbrev pub open_if : List Place → Option TokenKind → Place → List Place
open_if places None place = places
open_if places (Some kind) place = open_after places (record { kind = kind; place = place })

-- the walk has come through these lexemes of the text, and the rest is left
pub record HasWalked (text rest : List ℕ) (lexemes : List (List ℕ)) (walk : BracketWalk) : Type 0 where
  pub cut : AreFirstLexemes lexemes text rest
  pub place_is : walk.place ≡ place_after (concat lexemes)
  pub open_is : walk.places ≡ open_of (tokens_from [] lexemes)

-- if lexemes of the text end at the place, the first of them are these
abbrev pub IsAhead : List ℕ → List ℕ → List (List ℕ) → Place → Type 0
IsAhead text rest lexemes place =
    (its : List ℕ) (others : List (List ℕ)) → AreFirstLexemes others text its → place_after (concat others) ≡ place
    → (more : List (List ℕ)) × (others ≡ lexemes ++ more) × AreFirstLexemes more rest its

-- a walk through the text that has not passed the place
pub record IsOnItsWay (text rest : List ℕ) (walk : BracketWalk) (place : Place) : Type 0 where
  pub lexemes : List (List ℕ)
  pub walked : HasWalked text rest lexemes walk
  pub ahead : IsAhead text rest lexemes place

-- the first lexeme has a byte that is not allowed, or is a comment without an end
pub data IsHindered (rest : List ℕ) : Type 0 where
  stops : (n : ℕ) → StopsAt n rest → IsHindered rest
  unclosed : IsUnclosedComment rest → IsHindered rest

-- the first lexeme, or why there is none
abbrev pub IsFrontOf : List ℕ → Option Lexeme → Type 0
IsFrontOf rest (Some lexeme) = Opens lexeme rest
IsFrontOf rest None = IsHindered rest
