-- The tokens of programs, and the beginnings of them.
use Rattle.std.specs.Prelude.{List, ◌++◌}
use Rattle.twe_ast.specs.declared.item.Ast.{Ast}
use Rattle.twe_lexer.specs.declared.token.Token.{Token}
use Rattle.twe_parser.specs.Writes.{Writes}

-- the tokens are those of a program
abbrev pub IsProgram : List Token → Type 0
IsProgram tokens = (tree : Ast) × Writes tree tokens

-- the tokens of some program begin with these
abbrev pub IsViable : List Token → Type 0
IsViable tokens = (tree : Ast) × (more : List Token) × Writes tree (tokens ++ more)
