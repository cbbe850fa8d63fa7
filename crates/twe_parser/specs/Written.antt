-- The tokens of keywords and symbols, of names, and of literals.
use Rattle.std.specs.Prelude.{ℕ}
use Rattle.twe_base.specs.declared.place.Place.{Place}
use Rattle.twe_ast.specs.declared.name.Name.{Name}
use Rattle.twe_lexer.specs.declared.fixed.Fixed.{Fixed}
use Rattle.twe_lexer.specs.declared.token.Token.{Token}
use Rattle.twe_lexer.specs.declared.token.TokenKind.TheVariants as kinds

-- the token of a keyword or a symbol
abbrev pub word : Fixed → Place → Token
word f place = record { kind = kinds.Fixed f; place = place }

-- the token of a name
abbrev pub named : Name → Token
named name = record { kind = kinds.Name name.text; place = name.place }

-- the token of an integer literal
abbrev pub number : ℕ → Place → Token
number value place = record { kind = kinds.Literal value; place = place }
