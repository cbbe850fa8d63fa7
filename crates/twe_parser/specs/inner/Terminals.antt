-- The terminals of tokens.
use Rattle.std.specs.Prelude.{Bool, true, false, bytes_eq}
use Rattle.twe_lexer.specs.declared.fixed.Fixed.{Fixed}
use Rattle.twe_lexer.specs.declared.token.TokenKind.{TokenKind}
use Rattle.twe_lexer.specs.declared.token.TokenKind.TheVariants as kinds
use Rattle.twe_lexer.specs.Spelling.{spelling}
use Rattle.twe_parser.specs.declared.symbol.Symbol.{Symbol}
use Rattle.twe_parser.specs.declared.symbol.Symbol.TheVariants as symbols
use Rattle.twe_parser.specs.declared.symbol.Terminal.{Terminal}
use Rattle.twe_parser.specs.declared.symbol.Terminal.TheVariants as next

-- the terminal that a token is: a name or a literal without its text or value
abbrev pub terminal_of : TokenKind → Terminal
terminal_of (kinds.Name text) = next.Name
terminal_of (kinds.Literal value) = next.Literal
terminal_of (kinds.Fixed f) = next.Fixed f
terminal_of kinds.Stray = next.Stray

-- the same keyword or symbol: one with the same spelling
abbrev pub same_fixed : Fixed → Fixed → Bool
same_fixed f g = bytes_eq (spelling f) (spelling g)

-- the terminal is the one that the symbol expects
abbrev pub meets : Symbol → Terminal → Bool
meets symbols.Name next.Name = true
meets symbols.Literal next.Literal = true
meets (symbols.Token f) (next.Fixed g) = same_fixed f g
meets _ _ = false
