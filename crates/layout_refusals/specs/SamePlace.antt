-- Which place of a text is which place of another text that has the same tokens.
use Rattle.std.specs.Prelude.{◌≡◌, ℕ, List, [], ◌∷◌, ◌++◌, map, Some, slice_get}
use Rattle.twe_base.specs.declared.place.Place.{Place}
use Rattle.twe_lexer.specs.declared.token.Token.{Token}
use Rattle.twe_lexer.specs.Places.{place_after}
use Rattle.twe_lexer.specs.Tokens.{BeginsWith}

-- the places at which the tokens of a text begin, in their order, and the place of its end
abbrev pub places_of : List Token → List ℕ → List Place
places_of tokens text = map (λ token. token.place) tokens ++ place_after text ∷ []

-- The texts have tokens of the same kinds and values. The one place is that of a token of the text, the other that of the token
-- of the same number in the other text; or they are the ends of both.
pub record IsSamePlace (text other : List ℕ) (place its : Place) : Type 0 where
  pub tokens : List Token
  pub others : List Token
  pub cut : BeginsWith text tokens []
  pub other_cut : BeginsWith other others []
  pub kinds : map (λ token. token.kind) tokens ≡ map (λ token. token.kind) others
  pub number : ℕ
  pub here : slice_get (places_of tokens text) number ≡ Some place
  pub there : slice_get (places_of others other) number ≡ Some its
