-- The printed tokens of a list.
use Rattle.std.specs.Prelude.{Bool, true, List, [], ◌∷◌, ◌++◌}
use Rattle.twe_lexer.specs.declared.fixed.Fixed.{Fixed}
use Rattle.twe_lexer.specs.declared.token.TokenKind.{TokenKind}
use Rattle.ast_printer.specs.Text.{when}

-- the pieces of a list with a separator between them; `later` is whether something comes before them
abbrev pub listed : {Piece : Type 0} → (Piece → List TokenKind) → Fixed → Bool → List Piece → List TokenKind
listed tokens separator later [] = []
listed tokens separator later (first ∷ others) = when later separator ++ (tokens first ++ listed tokens separator true others)
