-- Soundness of the productions of expressions.
use Rattle.std.proofs.Common.{◌≡◌, ℕ, ◌+◌, ◌<◌, ◌≤◌, ◌==◌, Bool, true, false, List, [], ◌∷◌, Option, None, Some, nat_le, refl, sym, ap, ◌∙◌, subst, arith}
use Rattle.std.specs.Prelude.{if◌then◌else◌}
use Rattle.std.proofs.lemmas.Bool.{eqb-true}
use Rattle.twe_base.specs.declared.place.Place.{Place}
use Rattle.twe_ast.specs.declared.expr.BinOp.{BinOp}
use Rattle.twe_ast.specs.declared.expr.BinOp.TheVariants as operators
use Rattle.twe_ast.specs.Expression.{Expression, expression, Binary, no_more, argument}
use Rattle.twe_lexer.specs.declared.fixed.Fixed.TheVariants as fixed
use Rattle.twe_lexer.specs.declared.token.Token.{Token}
use Rattle.twe_lexer.specs.declared.token.TokenKind.{TokenKind}
use Rattle.twe_lexer.specs.declared.token.TokenKind.TheVariants as kinds
use Rattle.twe_parser.specs.declared.production.Production.{Production}
use Rattle.twe_parser.specs.declared.symbol.Action.TheVariants.{Expr}
use Rattle.twe_parser.specs.declared.symbol.ExprAction.TheVariants as exprs
use Rattle.twe_parser.specs.declared.symbol.Nonterminal.TheVariants as nonterminals
use Rattle.twe_parser.specs.declared.symbol.Symbol.{Symbol}
use Rattle.twe_parser.specs.declared.symbol.Symbol.TheVariants.{Expand, Perform}
use Rattle.twe_ast.specs.Precedence.{level_of}
use Rattle.twe_parser.specs.OperatorTokens.{operator}
use Rattle.twe_parser.specs.Written.{word, number}
use Rattle.twe_parser.specs.WritesExpression.{is_smallest, WritesExpression, written, binary, negative, smallest, negation, literal, yes, no, variable, call, array, grid, parentheses, no_arguments, arguments, no_more_arguments, more_arguments}
use Rattle.twe_parser.specs.inner.Operators.{operator_of}
use Rattle.twe_parser.specs.inner.Productions.{followed, unary_production, after_minus_production, suffix_production, second_index_production, args_production, more_args_production, climb_production, climb_from}
use Rattle.twe_parser.specs.inner.Terminals.{terminal_of}
use Rattle.twe_parser.proofs.Meanings.{Below, HasExpression, Means, Reads, done, a_token, a_nonterminal, an_action, ReadsProduction, reads_split}
use Rattle.twe_parser.proofs.Steps.{operator_again, operator_production, level_small, binds_less, climb_six_production, le_from_true}

-- an expression of a higher level is also one of a lower level
pub lower : {level : ℕ} {e : Expression} {tokens rest : List Token} → WritesExpression level e tokens rest → (low : ℕ) → low ≤ level → WritesExpression low e tokens rest
lower (written (binary le left right)) low lower_le = written (binary (omega arith) left right)
lower (written (negative other operand)) low lower_le = written (negative other operand)
lower (written smallest) low lower_le = written smallest
lower (written (negation operand)) low lower_le = written (negation operand)
lower (written literal) low lower_le = written literal
lower (written yes) low lower_le = written yes
lower (written no) low lower_le = written no
lower (written variable) low lower_le = written variable
lower (written (call args)) low lower_le = written (call args)
lower (written (array index)) low lower_le = written (array index)
lower (written (grid row column)) low lower_le = written (grid row column)
lower (written (parentheses inside)) low lower_le = written (parentheses inside)

below_last : (tokens : List Token) → Below (6 + 1) tokens
below_last [] = tt
below_last (token ∷ tokens) = climb_six_production 7 (operator_of (terminal_of token.kind)) (omega arith)

-- an operand and what follows it
pub whole : (level : ℕ) (tokens more rest : List Token) → HasExpression 6 tokens more → Means (nonterminals.Climb level) more rest → level ≤ 6 → HasExpression level tokens rest
whole level tokens more rest (e, writes) climbs le = climbs.1 tokens 6 e le (omega arith) writes (below_last more)

joined_by : (op : BinOp) (place : Place) (left right : Expression) (before others rest : List Token) → WritesExpression (level_of op) left before (word (operator op) place ∷ others) → WritesExpression (level_of op + 1) right others rest
    → HasExpression (level_of op) before rest
joined_by op place left right before others rest (written {shape = shape} {first = first} left_shape) writes = (expression first.place (Binary op left right place), written (binary (omega arith) (written left_shape) writes))

-- an operator and its right operand, after a left one
pub climb_step : (op : BinOp) (level : ℕ) (place : Place) (tokens rest : List Token) → level ≤ level_of op → Reads (operator_production op level).right_side tokens rest → Means (nonterminals.Climb level) (word (operator op) place ∷ tokens) rest
climb_step op level place tokens rest le (a_nonterminal {more = more} operand (a_nonterminal {more = third} inner (an_action (a_nonterminal outer done)))) = (
  outer.0,
  λ before higher left low high writes_left below_left.
      let small = level_small op in
      let right = whole (level_of op + 1) tokens more third operand inner (omega arith) in
      let binds : level_of op < higher + 1 = binds_less op (higher + 1) (sym (ap (climb_from (higher + 1)) (operator_again op)) ∙ below_left) in
      let made = joined_by op place left right.0 before tokens third (lower writes_left (level_of op) (omega arith)) right.1 in
      outer.1 before (level_of op) made.0 le (omega arith) made.1 inner.0,
)

climb_by_test : (op : BinOp) (level : ℕ) (place : Place) (tokens rest : List Token) (test : Bool) → nat_le level (level_of op) ≡ test
    → ReadsProduction (if test then Some (operator_production op level) else None) tokens rest → Means (nonterminals.Climb level) (word (operator op) place ∷ tokens) rest
climb_by_test op level place tokens rest true is reads = climb_step op level place tokens rest (le_from_true level (level_of op) is) reads
climb_by_test op level place tokens rest false is reads = absurd reads

climb_op : (op : BinOp) (level : ℕ) (place : Place) (tokens rest : List Token) → ReadsProduction (climb_from level (Some op)) tokens rest → Means (nonterminals.Climb level) (word (operator op) place ∷ tokens) rest
climb_op op level place tokens rest reads = climb_by_test op level place tokens rest (nat_le level (level_of op)) refl reads

pub climb_means : (level : ℕ) (kind : TokenKind) (place : Place) (tokens rest : List Token) → ReadsProduction (climb_production level (terminal_of kind)) tokens rest → Means (nonterminals.Climb level) ((record { kind = kind; place = place }) ∷ tokens) rest
climb_means level (kinds.Fixed fixed.Or) place tokens rest reads = climb_op operators.Or level place tokens rest reads
climb_means level (kinds.Fixed fixed.And) place tokens rest reads = climb_op operators.And level place tokens rest reads
climb_means level (kinds.Fixed fixed.Equal) place tokens rest reads = climb_op operators.Equal level place tokens rest reads
climb_means level (kinds.Fixed fixed.NotEqual) place tokens rest reads = climb_op operators.NotEqual level place tokens rest reads
climb_means level (kinds.Fixed fixed.Less) place tokens rest reads = climb_op operators.Less level place tokens rest reads
climb_means level (kinds.Fixed fixed.LessEqual) place tokens rest reads = climb_op operators.LessEqual level place tokens rest reads
climb_means level (kinds.Fixed fixed.Greater) place tokens rest reads = climb_op operators.Greater level place tokens rest reads
climb_means level (kinds.Fixed fixed.GreaterEqual) place tokens rest reads = climb_op operators.GreaterEqual level place tokens rest reads
climb_means level (kinds.Fixed fixed.Plus) place tokens rest reads = climb_op operators.Add level place tokens rest reads
climb_means level (kinds.Fixed fixed.Minus) place tokens rest reads = climb_op operators.Sub level place tokens rest reads
climb_means level (kinds.Fixed fixed.Star) place tokens rest reads = climb_op operators.Mul level place tokens rest reads
climb_means level (kinds.Fixed fixed.Slash) place tokens rest reads = climb_op operators.Div level place tokens rest reads
climb_means level (kinds.Fixed fixed.Percent) place tokens rest reads = climb_op operators.Rem level place tokens rest reads
climb_means level _ place tokens rest reads = absurd reads

-- a production with more symbols at its end
pub followed_means : (production : Option Production) (more : List Symbol) (tokens rest : List Token) → ReadsProduction (followed production more) tokens rest → (middle : List Token) × ReadsProduction production tokens middle × Reads more middle rest
followed_means None more tokens rest reads = absurd reads
followed_means (Some production) more tokens rest reads = reads_split production.right_side more tokens rest reads

pub unary_means : (kind : TokenKind) (place : Place) (tokens rest : List Token) → ReadsProduction (unary_production (terminal_of kind)) tokens rest → HasExpression 6 ((record { kind = kind; place = place }) ∷ tokens) rest
unary_means (kinds.Name text) place tokens rest (a_nonterminal suffix done) = suffix (record { text = text; place = place })
unary_means (kinds.Literal value) place tokens rest (an_action done) = (_, written literal)
unary_means (kinds.Fixed fixed.True) place tokens rest (an_action done) = (_, written yes)
unary_means (kinds.Fixed fixed.False) place tokens rest (an_action done) = (_, written no)
unary_means (kinds.Fixed fixed.OpenParen) place tokens rest (a_nonterminal {more = more} operand (a_nonterminal {more = third} climbs (a_token (an_action done)))) = enclosed place tokens rest _ (whole 0 tokens more third operand climbs (omega arith))
  where
    enclosed : (place : Place) (tokens rest : List Token) (close : Place) → HasExpression 0 tokens (word fixed.CloseParen close ∷ rest) → HasExpression 6 (word fixed.OpenParen place ∷ tokens) rest
    enclosed place tokens rest close (expression inner shape, writes) = (expression place shape, written (parentheses writes))
unary_means (kinds.Fixed fixed.Minus) place tokens rest (a_nonterminal operand done) = operand place
unary_means (kinds.Fixed fixed.Not) place tokens rest (a_nonterminal {more = more} operand (a_nonterminal {more = third} climbs (an_action done))) =
    let e = whole 6 tokens more third operand climbs (omega arith) in (_, written (negation e.1))
unary_means _ place tokens rest reads = absurd reads

minus_literal : (value : ℕ) (place inside : Place) (rest : List Token) (test : Bool) → (value == 2147483648) ≡ test → HasExpression 6 (word fixed.Minus place ∷ number value inside ∷ rest) rest
minus_literal value place inside rest false is = (_, written (negative is (written literal)))
minus_literal value place inside rest true is =
    subst (λ (n : ℕ). HasExpression 6 (word fixed.Minus place ∷ number n inside ∷ rest) rest) (sym (eqb-true value 2147483648 is)) (_, written smallest)

-- `-` and an operand that is not a literal
negated : (kind : TokenKind) (place inside : Place) (tokens rest : List Token) → is_smallest kind ≡ false → ReadsProduction (followed (unary_production (terminal_of kind)) (Expand (nonterminals.Climb 6) ∷ Perform (Expr exprs.Negate) ∷ [])) tokens rest
    → HasExpression 6 (word fixed.Minus place ∷ (record { kind = kind; place = inside }) ∷ tokens) rest
negated kind place inside tokens rest other reads = finish (followed_means (unary_production (terminal_of kind)) (Expand (nonterminals.Climb 6) ∷ Perform (Expr exprs.Negate) ∷ []) tokens rest reads)
  where
    finish : (middle : List Token) × ReadsProduction (unary_production (terminal_of kind)) tokens middle × Reads (Expand (nonterminals.Climb 6) ∷ Perform (Expr exprs.Negate) ∷ []) middle rest
        → HasExpression 6 (word fixed.Minus place ∷ (record { kind = kind; place = inside }) ∷ tokens) rest
    finish (middle, operand, a_nonterminal {more = third} climbs (an_action done)) =
        let e = whole 6 ((record { kind = kind; place = inside }) ∷ tokens) middle rest (unary_means kind inside tokens middle operand) climbs (omega arith) in (_, written (negative other e.1))

pub after_minus_means : (kind : TokenKind) (inside : Place) (tokens rest : List Token) → ReadsProduction (after_minus_production (terminal_of kind)) tokens rest → Means nonterminals.AfterMinus ((record { kind = kind; place = inside }) ∷ tokens) rest
after_minus_means (kinds.Literal value) inside tokens rest (an_action done) place = minus_literal value place inside tokens (value == 2147483648) refl
after_minus_means (kinds.Name text) inside tokens rest reads place = negated (kinds.Name text) place inside tokens rest refl reads
after_minus_means (kinds.Fixed f) inside tokens rest reads place = negated (kinds.Fixed f) place inside tokens rest refl reads
after_minus_means kinds.Stray inside tokens rest reads place = absurd reads

pub suffix_means : (kind : TokenKind) (place : Place) (tokens rest : List Token) → ReadsProduction (suffix_production (terminal_of kind)) tokens rest → Means nonterminals.Suffix ((record { kind = kind; place = place }) ∷ tokens) rest
suffix_means (kinds.Fixed fixed.OpenParen) place tokens rest (an_action (a_nonterminal args (an_action done))) name = (_, written (call args.1))
suffix_means (kinds.Fixed fixed.OpenBracket) place tokens rest (a_nonterminal {more = more} operand (a_nonterminal {more = third} climbs (a_token {place = close} (a_nonterminal second done)))) name =
    let index = whole 0 tokens more third operand climbs (omega arith) in second name place index.0 tokens close index.1
suffix_means _ place tokens rest reads name = absurd reads

pub second_index_means : (kind : TokenKind) (place : Place) (tokens rest : List Token) → ReadsProduction (second_index_production (terminal_of kind)) tokens rest → Means nonterminals.SecondIndex ((record { kind = kind; place = place }) ∷ tokens) rest
second_index_means (kinds.Fixed fixed.OpenBracket) place tokens rest (a_nonterminal {more = more} operand (a_nonterminal {more = third} climbs (a_token (an_action done)))) name opening index before close writes =
    let column = whole 0 tokens more third operand climbs (omega arith) in (_, written (grid writes column.1))
second_index_means _ place tokens rest reads name opening index before close writes = absurd reads

-- an operand with what follows it up to a certain symbol
pub operand_then : (kind : TokenKind) (place : Place) (tokens rest : List Token) (more : List Symbol) → ReadsProduction (followed (unary_production (terminal_of kind)) (Expand (nonterminals.Climb 0) ∷ more)) tokens rest
    → (middle : List Token) × HasExpression 0 ((record { kind = kind; place = place }) ∷ tokens) middle × Reads more middle rest
operand_then kind place tokens rest more reads = finish (followed_means (unary_production (terminal_of kind)) (Expand (nonterminals.Climb 0) ∷ more) tokens rest reads)
  where
    finish : (middle : List Token) × ReadsProduction (unary_production (terminal_of kind)) tokens middle × Reads (Expand (nonterminals.Climb 0) ∷ more) middle rest
        → (middle : List Token) × HasExpression 0 ((record { kind = kind; place = place }) ∷ tokens) middle × Reads more middle rest
    finish (middle, operand, a_nonterminal {more = third} climbs reads) = (third, whole 0 ((record { kind = kind; place = place }) ∷ tokens) middle third (unary_means kind place tokens middle operand) climbs (omega arith), reads)

one_argument : (tokens rest : List Token) → ((middle : List Token) × HasExpression 0 tokens middle × Reads (Perform (Expr exprs.KeepArg) ∷ Expand nonterminals.MoreArgs ∷ []) middle rest) → Means nonterminals.Args tokens rest
one_argument tokens rest (middle, e, an_action (a_nonterminal more done)) = (argument e.0 more.0, arguments e.1 more.1)

pub args_means : (kind : TokenKind) (place : Place) (tokens rest : List Token) → ReadsProduction (args_production (terminal_of kind)) tokens rest → Means nonterminals.Args ((record { kind = kind; place = place }) ∷ tokens) rest
args_means (kinds.Fixed fixed.CloseParen) place tokens rest done = (no_more, no_arguments)
args_means kind place tokens rest reads = one_argument ((record { kind = kind; place = place }) ∷ tokens) rest (operand_then kind place tokens rest (Perform (Expr exprs.KeepArg) ∷ Expand nonterminals.MoreArgs ∷ []) reads)

pub more_args_means : (kind : TokenKind) (place : Place) (tokens rest : List Token) → ReadsProduction (more_args_production (terminal_of kind)) tokens rest → Means nonterminals.MoreArgs ((record { kind = kind; place = place }) ∷ tokens) rest
more_args_means (kinds.Fixed fixed.CloseParen) place tokens rest done = (no_more, no_more_arguments)
more_args_means (kinds.Fixed fixed.Comma) place tokens rest (a_nonterminal {more = more} operand (a_nonterminal {more = third} climbs (an_action (a_nonterminal others done)))) =
    let e = whole 0 tokens more third operand climbs (omega arith) in (argument e.0 others.0, more_arguments e.1 others.1)
more_args_means _ place tokens rest reads = absurd reads
