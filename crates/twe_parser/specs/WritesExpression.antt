-- The grammar of expressions.
--
-- `WritesExpression level e tokens rest`: the tokens are those of the expression e, followed by the rest. The level is a
-- precedence: at level n every operator outside parentheses has precedence n or higher. The left operand of an operator
-- of precedence n is an expression of level n, and the right operand one of level n + 1. So operators of the same
-- precedence associate to the left.
use Rattle.std.specs.Prelude.{◌≡◌, ℕ, ◌+◌, ◌≤◌, negsuc, Bool, true, false, List, ◌∷◌, ◌==◌}
use Rattle.twe_base.specs.Language.{max_literal}
use Rattle.twe_base.specs.declared.place.Place.{Place}
use Rattle.twe_ast.specs.declared.expr.BinOp.{BinOp}
use Rattle.twe_ast.specs.declared.name.Name.{Name}
use Rattle.twe_ast.specs.Expression.{Expression, expression, Shape, Literal, Truth, Variable, ArrayElement, GridElement, CallValue, Negative, Negation, Binary, Arguments, no_more, argument}
use Rattle.twe_lexer.specs.declared.fixed.Fixed.TheVariants as fixed
use Rattle.twe_lexer.specs.declared.token.Token.{Token}
use Rattle.twe_lexer.specs.declared.token.TokenKind.{TokenKind}
use Rattle.twe_lexer.specs.declared.token.TokenKind.TheVariants as kinds
use Rattle.twe_ast.specs.Precedence.{level_of}
use Rattle.twe_parser.specs.OperatorTokens.{operator}
use Rattle.twe_parser.specs.Values.{literal_value_of}
use Rattle.twe_parser.specs.Written.{word, named, number}

-- the number after the largest literal: together with a `-` before it, it is one literal
abbrev pub is_smallest : TokenKind → Bool
is_smallest (kinds.Literal value) = value == max_literal + 1
is_smallest _ = false

mutual
  -- an expression, and its place: that of its first token
  pub data WritesExpression : ℕ → Expression → List Token → List Token → Type 0 where
    written : {level : ℕ} {shape : Shape} {first : Token} {others rest : List Token}
        → WritesShape level shape (first ∷ others) rest
        → WritesExpression level (expression first.place shape) (first ∷ others) rest

  -- the shape of an expression: the same level, tokens and rest
  pub data WritesShape : ℕ → Shape → List Token → List Token → Type 0 where
    -- Expr { operator Expr }
    binary : {level : ℕ} {op : BinOp} {place : Place} {left right : Expression} {tokens others rest : List Token}
        → level ≤ level_of op
        → WritesExpression (level_of op) left tokens (word (operator op) place ∷ others)
        → WritesExpression (level_of op + 1) right others rest
        → WritesShape level (Binary op left right place) tokens rest
    -- "-" Unary, and "-" int-literal if the literal is the number after the largest one
    negative : {level : ℕ} {place : Place} {operand : Expression} {first : Token} {others rest : List Token}
        → is_smallest first.kind ≡ false
        → WritesExpression 6 operand (first ∷ others) rest
        → WritesShape level (Negative operand) (word fixed.Minus place ∷ first ∷ others) rest
    smallest : {level : ℕ} {place inside : Place} {rest : List Token}
        → WritesShape level (Literal (negsuc max_literal)) (word fixed.Minus place ∷ number (max_literal + 1) inside ∷ rest) rest
    -- "!" Unary
    negation : {level : ℕ} {place : Place} {operand : Expression} {others rest : List Token}
        → WritesExpression 6 operand others rest → WritesShape level (Negation operand) (word fixed.Not place ∷ others) rest
    -- int-literal, "true", "false", ident
    literal : {level value : ℕ} {place : Place} {rest : List Token}
        → WritesShape level (Literal (literal_value_of value)) (number value place ∷ rest) rest
    yes : {level : ℕ} {place : Place} {rest : List Token} → WritesShape level (Truth true) (word fixed.True place ∷ rest) rest
    no : {level : ℕ} {place : Place} {rest : List Token} → WritesShape level (Truth false) (word fixed.False place ∷ rest) rest
    variable : {level : ℕ} {name : Name} {rest : List Token} → WritesShape level (Variable name) (named name ∷ rest) rest
    -- ident Args
    call : {level : ℕ} {name : Name} {args : Arguments} {opening : Place} {others rest : List Token}
        → WritesArguments args others rest
        → WritesShape level (CallValue name args) (named name ∷ word fixed.OpenParen opening ∷ others) rest
    -- ident "[" Expr "]" [ "[" Expr "]" ]
    array : {level : ℕ} {name : Name} {index : Expression} {opening close : Place} {others rest : List Token}
        → WritesExpression 0 index others (word fixed.CloseBracket close ∷ rest)
        → WritesShape level (ArrayElement name index) (named name ∷ word fixed.OpenBracket opening ∷ others) rest
    grid : {level : ℕ} {name : Name} {row column : Expression} {opening close second last : Place} {others more rest : List Token}
        → WritesExpression 0 row others (word fixed.CloseBracket close ∷ word fixed.OpenBracket second ∷ more)
        → WritesExpression 0 column more (word fixed.CloseBracket last ∷ rest)
        → WritesShape level (GridElement name row column) (named name ∷ word fixed.OpenBracket opening ∷ others) rest
    -- "(" Expr ")", which the tree does not record
    parentheses : {level : ℕ} {shape : Shape} {place opening close : Place} {others rest : List Token}
        → WritesExpression 0 (expression place shape) others (word fixed.CloseParen close ∷ rest)
        → WritesShape level shape (word fixed.OpenParen opening ∷ others) rest

  -- after the "(" of arguments: [ Expr { "," Expr } ] ")"
  pub data WritesArguments : Arguments → List Token → List Token → Type 0 where
    no_arguments : {close : Place} {rest : List Token} → WritesArguments no_more (word fixed.CloseParen close ∷ rest) rest
    arguments : {first : Expression} {others : Arguments} {tokens more rest : List Token}
        → WritesExpression 0 first tokens more → MoreArguments others more rest
        → WritesArguments (argument first others) tokens rest

  -- after an argument: { "," Expr } ")"
  pub data MoreArguments : Arguments → List Token → List Token → Type 0 where
    no_more_arguments : {close : Place} {rest : List Token} → MoreArguments no_more (word fixed.CloseParen close ∷ rest) rest
    more_arguments : {first : Expression} {others : Arguments} {comma : Place} {tokens more rest : List Token}
        → WritesExpression 0 first tokens more → MoreArguments others more rest
        → MoreArguments (argument first others) (word fixed.Comma comma ∷ tokens) rest
