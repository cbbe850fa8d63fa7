-- The property of a printed text: it is a program again, with the same tree.
use Rattle.std.specs.Prelude.{◌≡◌, ℕ, List, []}
use Rattle.twe_base.specs.declared.place.Place.{Place}
use Rattle.twe_ast.specs.declared.item.Ast.{Ast}
use Rattle.twe_lexer.specs.declared.token.Token.{Token}
use Rattle.twe_lexer.specs.Places.{place_after}
use Rattle.twe_lexer.specs.Tokens.{BeginsWith}
use Rattle.twe_parser.specs.declared.fail.SRule.{SRule}
use Rattle.twe_parser.specs.Fails.{Fails}
use Rattle.twe_parser.specs.Writes.{Writes}
use Rattle.ast_printer.specs.BareItem.{EqualButForPlaces}

-- the tokens of the text are those of the tree, and the text fails no rule
pub record IsTextOf (text : List ℕ) (tree : Ast) : Type 0 where
  pub tokens : List Token
  pub cut : BeginsWith text tokens []
  pub writes : Writes tree tokens
  pub accepted : (rule : SRule) (place : Place) → ¬ Fails text rule place

-- the text is a program, and its tree is this one except for places
pub record ParsesAgain (text : List ℕ) (tree : Ast) : Type 0 where
  pub again : Ast
  pub parsed : IsTextOf text again
  pub end : again.end ≡ place_after text
  pub same : EqualButForPlaces again tree
