-- Words with places that are given one after the other.
use Rattle.std.proofs.Common.{◌≡◌, List, [], ◌∷◌, ◌++◌, refl, ap}
use Rattle.twe_base.specs.declared.place.Place.{Place}
use Rattle.twe_ast.specs.declared.name.Name.{Name}
use Rattle.twe_lexer.specs.declared.token.Token.{Token}
use Rattle.twe_lexer.specs.declared.token.TokenKind.{TokenKind}
use Rattle.ast_printer.specs.BareExpression.{nowhere}

-- the first of the places, and those after it; where they have run out, one that is none
abbrev pub here : List Place → Place
here [] = nowhere
here (place ∷ places) = place

abbrev pub next : List Place → List Place
next [] = []
next (place ∷ places) = places

-- the words as tokens at these places
abbrev pub tokens_at : List Place → List TokenKind → List Token
tokens_at s [] = []
tokens_at s (kind ∷ kinds) = (record { kind = kind; place = here s }) ∷ tokens_at (next s) kinds

-- the places after those of some words
abbrev pub after : List TokenKind → List Place → List Place
after [] s = s
after (kind ∷ kinds) s = after kinds (next s)

pub after_append : (one other : List TokenKind) (s : List Place) → after (one ++ other) s ≡ after other (after one s)
after_append [] other s = refl
after_append (kind ∷ one) other s = after_append one other (next s)

abbrev pub kinds_in : List Token → List TokenKind
kinds_in [] = []
kinds_in (token ∷ tokens) = token.kind ∷ kinds_in tokens

abbrev pub places_in : List Token → List Place
places_in [] = []
places_in (token ∷ tokens) = token.place ∷ places_in tokens

pub tokens_again : (tokens : List Token) → tokens_at (places_in tokens) (kinds_in tokens) ≡ tokens
tokens_again [] = refl
tokens_again (token ∷ tokens) = ap (λ more. token ∷ more) (tokens_again tokens)

abbrev pub placed_name : Name → List Place → Name
placed_name name s = record { text = name.text; place = here s }
