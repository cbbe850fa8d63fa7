-- The brackets that are open at a place of a text.
use Rattle.std.specs.Prelude.{◌≡◌, ◌⊎◌, ℕ, ◌-◌, List, [], ◌∷◌, ◌++◌, Option, None, Some, length, take, fold, if◌then◌else◌}
use Rattle.twe_base.specs.declared.place.Place.{Place}
use Rattle.twe_lexer.specs.declared.token.Token.{Token}
use Rattle.twe_lexer.specs.Places.{Precedes, place_after}
use Rattle.twe_lexer.specs.Tokens.{BeginsWith}
use Rattle.twe_parser.specs.declared.fail.SRule.{SRule}
use Rattle.twe_parser.specs.declared.fail.SRule.TheVariants.{S1, S6}
use Rattle.twe_parser.specs.Fails.{Fails}
use Rattle.twe_parser.specs.Limits.{closes, opens}

-- one more token: an opening bracket is open, and a closing one closes the last that is open
abbrev pub open_after : List Place → Token → List Place
open_after places token =
    if opens token.kind then places ++ token.place ∷ []
    else if closes token.kind then take (length places - 1) places
    else places

-- the places of the brackets that are open after these tokens, the outermost first
abbrev pub open_of : List Token → List Place
open_of tokens = fold open_after [] tokens

-- these brackets are open at the place of the text: after the tokens before it
pub record AreOpenAt (text : List ℕ) (place : Place) (places : List Place) : Type 0 where
  pub before : List ℕ
  pub rest : List ℕ
  pub tokens : List Token
  pub split : text ≡ before ++ rest
  pub at : place_after before ≡ place
  pub cut : BeginsWith text tokens rest
  pub same : places ≡ open_of tokens

-- a byte that is not allowed, or a comment without an end, comes before the place
pub record IsBrokenBefore (text : List ℕ) (place : Place) : Type 0 where
  pub rule : SRule
  pub at : Place
  pub of_bytes : (rule ≡ S1) ⊎ (rule ≡ S6)
  pub fails : Fails text rule at
  pub earlier : Precedes at place

-- Exactly the brackets that are open at the place. None are given only if no beginning of the text that can be split into
-- lexemes ends there, or something before it may not stand in a text.
abbrev pub AreFoundAt : List ℕ → Place → Option (List Place) → Type 0
AreFoundAt text place (Some places) = AreOpenAt text place places
AreFoundAt text place None = (places : List Place) → AreOpenAt text place places → IsBrokenBefore text place
