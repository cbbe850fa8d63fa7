-- Tokens that begin with `(`.
use Rattle.std.specs.Prelude.{◌≡◌, List, ◌∷◌}
use Rattle.twe_base.specs.declared.place.Place.{Place}
use Rattle.twe_lexer.specs.declared.fixed.Fixed.TheVariants as fixed
use Rattle.twe_lexer.specs.declared.token.Token.{Token}
use Rattle.twe_parser.specs.Written.{word}

-- the first token is a `(`
abbrev pub BeginsEnclosed : List Token → Type 0
BeginsEnclosed tokens = (opening : Place) × (others : List Token) × (tokens ≡ word fixed.OpenParen opening ∷ others)
