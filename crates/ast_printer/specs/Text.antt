-- The text of a list of tokens.
use Rattle.std.specs.Prelude.{ℕ, Bool, true, false, List, [], ◌∷◌, ◌++◌, codes, decimal}
use Rattle.twe_lexer.specs.declared.fixed.Fixed.{Fixed}
use Rattle.twe_lexer.specs.declared.fixed.Fixed.TheVariants as fixed
use Rattle.twe_lexer.specs.declared.token.TokenKind.{TokenKind}
use Rattle.twe_lexer.specs.declared.token.TokenKind.TheVariants as kinds
use Rattle.twe_lexer.specs.Spelling.{spelling}

-- a keyword or a symbol if the condition is true, else nothing
abbrev pub when : Bool → Fixed → List TokenKind
when true f = kinds.Fixed f ∷ []
when false f = []

-- The bytes of a token. A stray one would be `#`; no tree contains one.
abbrev pub bytes_of : TokenKind → List ℕ
bytes_of (kinds.Name text) = text
bytes_of (kinds.Literal value) = decimal value
bytes_of (kinds.Fixed f) = spelling f
bytes_of kinds.Stray = codes "#"

-- the byte after a token: the end of a line after `{`, `}` and `;`, else a space
abbrev pub gap_after : TokenKind → ℕ
gap_after (kinds.Fixed fixed.OpenBrace) = 10
gap_after (kinds.Fixed fixed.CloseBrace) = 10
gap_after (kinds.Fixed fixed.Semicolon) = 10
gap_after _ = 32

-- each token and the byte after it
abbrev pub text_of : List TokenKind → List ℕ
text_of [] = []
text_of (word ∷ words) = bytes_of word ++ gap_after word ∷ text_of words
