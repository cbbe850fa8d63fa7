use Rattle.std.proofs.Common.{◌≡◌, ℕ, true, List, refl, arith}
use Rattle.std.proofs.lemmas.Bool.{ltb-true}
use Rattle.twe_base.specs.declared.place.Place.{Place}
use Rattle.twe_ast.specs.declared.expr.BinOp.{BinOp}
use Rattle.twe_ast.specs.Expression.{Expression, Binary}
use Rattle.twe_lexer.specs.declared.token.Token.{Token}
use Rattle.twe_ast.specs.Precedence.{level_of}
use Rattle.twe_parser.specs.WritesExpression.{WritesShape, binary, parentheses}
use Rattle.ast_printer.specs.Enclosed.{BeginsEnclosed}
use Rattle.ast_printer.specs.ExpressionTokens.{needs_parentheses}
use Rattle.ast_printer.proofs.laws.parentheses_are_needed.Goals as goal

begins : (level : ℕ) (op : BinOp) (left right : Expression) (place : Place) (tokens rest : List Token) → needs_parentheses level op ≡ true → WritesShape level (Binary op left right place) tokens rest → BeginsEnclosed tokens
begins level op left right place tokens rest needed (binary le one other) = let lower = ltb-true (level_of op) level needed in absurd (omega arith)
begins level op left right place tokens rest needed (parentheses {opening = opening} {others = others} inside) = (opening, others, refl)

pub returns : goal.returns
returns c level op left right place tokens rest needed writes = begins level op left right place tokens rest needed writes
