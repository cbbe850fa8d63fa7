-- The words of an expression are tokens that write it again.
use Rattle.std.proofs.Common.{◌≡◌, ℕ, ◌+◌, ◌≤◌, Bool, true, false, List, [], ◌∷◌, ◌++◌, nat_le, refl, sym, ap, subst, append_assoc, append-nil, arith}
use Rattle.std.specs.Prelude.{if◌then◌else◌, ℤ, pos, negsuc}
use Rattle.std.proofs.lemmas.Bool.{false≢true, ltb-false, leb-true, lt-ltb, ne_eqb}
use Rattle.twe_base.specs.declared.place.Place.{Place}
use Rattle.twe_ast.specs.declared.expr.BinOp.{BinOp}
use Rattle.twe_ast.specs.Expression.{Expression, expression, Shape, Literal, Negative, Binary, Arguments}
use Rattle.twe_lexer.specs.declared.fixed.Fixed.TheVariants as fixed
use Rattle.twe_lexer.specs.declared.token.Token.{Token}
use Rattle.twe_lexer.specs.declared.token.TokenKind.{TokenKind}
use Rattle.twe_lexer.specs.declared.token.TokenKind.TheVariants as kinds
use Rattle.twe_ast.specs.Precedence.{level_of}
use Rattle.twe_parser.specs.OperatorTokens.{operator}
use Rattle.twe_parser.specs.Values.{literal_value_of}
use Rattle.twe_parser.specs.Written.{word, number}
use Rattle.twe_parser.specs.WritesExpression.{is_smallest, WritesExpression, written, WritesShape, binary, negative, smallest, negation, literal, yes, no, variable, call, array, grid, parentheses, WritesArguments, no_arguments, arguments, MoreArguments, no_more_arguments, more_arguments}
use Rattle.twe_parser.proofs.FirstTokens.{shape_begins}
use Rattle.twe_parser.proofs.Steps.{level_small}
use Rattle.ast_printer.specs.Text.{when}
use Rattle.ast_printer.specs.ExpressionTokens.{literal_tokens, needs_parentheses, expression_tokens, shape_tokens, arguments_tokens}
use Rattle.ast_printer.proofs.Supply.{here, next, tokens_at, after, after_append}
use Rattle.ast_printer.proofs.PlacedExpression.{placed_expression, placed_shape, placed_arguments}

-- an expression begins where its first token stands
pub begins_here : (level : ℕ) (shape : Shape) (s : List Place) (words : List TokenKind) (rest : List Token) → WritesShape level shape (tokens_at s words) rest → WritesExpression level (expression (here s) shape) (tokens_at s words) rest
begins_here level shape s [] rest writes = absurd (false≢true (shape_begins writes))
begins_here level shape s (kind ∷ words) rest writes = written writes

-- the first word is the literal 2147483648, or there is none
abbrev pub starts_smallest : List TokenKind → Bool
starts_smallest [] = true
starts_smallest (kind ∷ kinds) = is_smallest kind

after_minus : (level : ℕ) (operand : Expression) (place : Place) (s : List Place) (words : List TokenKind) (rest : List Token) → starts_smallest words ≡ false
    → WritesExpression 6 operand (tokens_at s words) rest → WritesShape level (Negative operand) (word fixed.Minus place ∷ tokens_at s words) rest
after_minus level operand place s [] rest is writes = absurd (false≢true (sym is))
after_minus level operand place s (kind ∷ words) rest is writes = negative is writes

enclosed_start : (test : Bool) (words more : List TokenKind) → test ≡ true → starts_smallest ((when test fixed.OpenParen ++ words) ++ more) ≡ false
enclosed_start true words more is = refl
enclosed_start false words more is = absurd (false≢true is)

literal_start : (value : ℕ) (test : Bool) → nat_le value 2147483647 ≡ test → (more : List TokenKind) → starts_smallest (literal_tokens (if test then pos value else negsuc 2147483647) ++ more) ≡ false
literal_start value true is more = ne_eqb value 2147483648 (λ same. let small = leb-true value 2147483647 is in omega arith)
literal_start value false is more = refl

-- no expression as an operand of a sign starts with the literal 2147483648
pub small_start : {level : ℕ} {shape : Shape} {tokens rest : List Token} → WritesShape level shape tokens rest → (more : List TokenKind) → starts_smallest (shape_tokens 6 shape ++ more) ≡ false
small_start (binary {op = op} le left right) more = let small = level_small op in enclosed_start (needs_parentheses 6 op) _ more (lt-ltb (level_of op) 6 (omega arith))
small_start (negative other operand) more = refl
small_start smallest more = refl
small_start (negation operand) more = refl
small_start (literal {value = value}) more = literal_start value (nat_le value 2147483647) refl more
small_start yes more = refl
small_start no more = refl
small_start variable more = refl
small_start (call args) more = refl
small_start (array index) more = refl
small_start (grid row column) more = refl
small_start (parentheses (written inside)) more = small_start inside more

literal_again : (level value : ℕ) (test : Bool) → nat_le value 2147483647 ≡ test → (s : List Place) (more : List TokenKind)
    → WritesShape level (Literal (if test then pos value else negsuc 2147483647)) (tokens_at s (literal_tokens (if test then pos value else negsuc 2147483647) ++ more)) (tokens_at (after (literal_tokens (if test then pos value else negsuc 2147483647)) s) more)
literal_again level value true is s more =
    let the_value : literal_value_of value ≡ pos value = ap (λ b. if b then pos value else negsuc 2147483647) is in
    subst (λ (v : ℤ). WritesShape level (Literal v) (number value (here s) ∷ tokens_at (next s) more) (tokens_at (next s) more)) the_value literal
literal_again level value false is s more = smallest

-- it is written again at every level and at all places, whatever comes after it
abbrev pub AgainAt : ℕ → Expression → List Place → List TokenKind → Type 0
AgainAt level e s more = WritesExpression level (placed_expression level e s) (tokens_at s (expression_tokens level e ++ more)) (tokens_at (after (expression_tokens level e) s) more)

-- an operator with its operands, enclosed or not
operator_again : (test : Bool) (level : ℕ) (op : BinOp) (left right : Expression) (s : List Place) (more : List TokenKind) → (test ≡ false → level ≤ level_of op)
    → ((its : List Place) (later : List TokenKind) → AgainAt (level_of op) left its later) → ((its : List Place) (later : List TokenKind) → AgainAt (level_of op + 1) right its later)
    → WritesShape level
    (Binary op (placed_expression (level_of op) left (after (when test fixed.OpenParen) s)) (placed_expression (level_of op + 1) right (next (after (expression_tokens (level_of op) left) (after (when test fixed.OpenParen) s))))
    (here (after (expression_tokens (level_of op) left) (after (when test fixed.OpenParen) s))))
    (tokens_at s ((when test fixed.OpenParen ++ (expression_tokens (level_of op) left ++ kinds.Fixed (operator op) ∷ (expression_tokens (level_of op + 1) right ++ when test fixed.CloseParen))) ++ more))
    (tokens_at (after (when test fixed.OpenParen ++ (expression_tokens (level_of op) left ++ kinds.Fixed (operator op) ∷ (expression_tokens (level_of op + 1) right ++ when test fixed.CloseParen))) s) more)
operator_again true level op left right s more le left_again right_again =
    simp (append_assoc, after_append)
    (parentheses (begins_here 0 _ (next s) _ _ (binary (omega arith) (left_again (next s) _) (right_again (next (after (expression_tokens (level_of op) left) (next s))) (kinds.Fixed fixed.CloseParen ∷ more)))))
operator_again false level op left right s more le left_again right_again =
    simp (append_assoc, append-nil, after_append) (binary (le refl) (left_again s _) (right_again (next (after (expression_tokens (level_of op) left) s)) more))

mutual
  pub expression_again : {low : ℕ} {e : Expression} {tokens rest : List Token} → WritesExpression low e tokens rest → (level : ℕ) (s : List Place) (more : List TokenKind) → AgainAt level e s more
  expression_again (written {shape = shape} writes) level s more = begins_here level (placed_shape level shape s) s (shape_tokens level shape ++ more) _ (shape_again writes level s more)

  pub shape_again : {low : ℕ} {shape : Shape} {tokens rest : List Token} → WritesShape low shape tokens rest → (level : ℕ) (s : List Place) (more : List TokenKind)
      → WritesShape level (placed_shape level shape s) (tokens_at s (shape_tokens level shape ++ more)) (tokens_at (after (shape_tokens level shape) s) more)
  shape_again (binary {op = op} {left = l} {right = r} le left right) level s more =
      operator_again (needs_parentheses level op) level op l r s more (λ is. ltb-false (level_of op) level is) (λ its later. expression_again left (level_of op) its later) (λ its later. expression_again right (level_of op + 1) its later)
  shape_again (negative {operand = expression place inner} other (written operand)) level s more =
      after_minus level (placed_expression 6 (expression place inner) (next s)) (here s) (next s) (shape_tokens 6 inner ++ more) _ (small_start operand more) (expression_again (written operand) 6 (next s) more)
  shape_again smallest level s more = smallest
  shape_again (negation operand) level s more = negation (expression_again operand 6 (next s) more)
  shape_again (literal {value = value}) level s more = literal_again level value (nat_le value 2147483647) refl s more
  shape_again yes level s more = yes
  shape_again no level s more = no
  shape_again (variable {name = name}) level s more = variable {name = record { text = name.text; place = here s }}
  shape_again (call {name = name} args) level s more = call {name = record { text = name.text; place = here s }} (arguments_again args (next (next s)) more)
  shape_again (array {name = name} index) level s more =
      simp (append_assoc, after_append) (array {name = record { text = name.text; place = here s }} (expression_again index 0 (next (next s)) (kinds.Fixed fixed.CloseBracket ∷ more)))
  shape_again (grid {name = name} {row = r} row column) level s more =
      simp (append_assoc, after_append)
      (grid {name = record { text = name.text; place = here s }} (expression_again row 0 (next (next s)) _) (expression_again column 0 (next (next (after (expression_tokens 0 r) (next (next s))))) (kinds.Fixed fixed.CloseBracket ∷ more)))
  shape_again (parentheses (written inside)) level s more = shape_again inside level s more

  pub arguments_again : {args : Arguments} {tokens rest : List Token} → WritesArguments args tokens rest → (s : List Place) (more : List TokenKind)
      → WritesArguments (placed_arguments false args s) (tokens_at s (arguments_tokens false args ++ more)) (tokens_at (after (arguments_tokens false args) s) more)
  arguments_again no_arguments s more = no_arguments
  arguments_again (arguments {first = f} {others = o} first others) s more =
      simp (append_assoc, after_append) (arguments (expression_again first 0 s (arguments_tokens true o ++ more)) (more_arguments_again others (after (expression_tokens 0 f) s) more))

  pub more_arguments_again : {args : Arguments} {tokens rest : List Token} → MoreArguments args tokens rest → (s : List Place) (more : List TokenKind)
      → MoreArguments (placed_arguments true args s) (tokens_at s (arguments_tokens true args ++ more)) (tokens_at (after (arguments_tokens true args) s) more)
  more_arguments_again no_more_arguments s more = no_more_arguments
  more_arguments_again (more_arguments {first = f} {others = o} first others) s more =
      simp (append_assoc, after_append) (more_arguments (expression_again first 0 (next s) (arguments_tokens true o ++ more)) (more_arguments_again others (after (expression_tokens 0 f) (next s)) more))
