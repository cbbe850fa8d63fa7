-- Completeness: the machine takes the tokens of every expression.
use Rattle.std.proofs.Common.{◌≡◌, ℕ, ◌+◌, ◌≤◌, true, false, List, [], ◌∷◌, ◌++◌, refl, sym, ap, ◌∙◌, append_assoc, append-nil, arith}
use Rattle.std.specs.Prelude.{if◌then◌else◌, negsuc}
use Rattle.std.proofs.lemmas.Bool.{false≢true}
use Rattle.twe_base.specs.declared.place.Place.{Place}
use Rattle.twe_ast.specs.Expression.{Expression, expression, Shape, Literal, Negative, CallValue, Arguments, no_more, argument}
use Rattle.twe_ast.specs.inner.ExpressionView.{arguments_of}
use Rattle.twe_lexer.specs.declared.fixed.Fixed.TheVariants as fixed
use Rattle.twe_lexer.specs.declared.token.Token.{Token}
use Rattle.twe_parser.specs.declared.symbol.Action.TheVariants.{Nothing, Expr}
use Rattle.twe_parser.specs.declared.symbol.ExprAction.TheVariants as actions
use Rattle.twe_parser.specs.declared.symbol.Nonterminal.TheVariants as nonterminals
use Rattle.twe_parser.specs.declared.symbol.Symbol.{Symbol}
use Rattle.twe_parser.specs.declared.symbol.Symbol.TheVariants as symbols
use Rattle.twe_parser.specs.declared.symbol.Symbol.TheVariants.{Expand, Perform}
use Rattle.twe_parser.specs.declared.value_stacks.ValueStacks.{ValueStacks}
use Rattle.twe_ast.specs.Precedence.{level_of}
use Rattle.twe_parser.specs.OperatorTokens.{operator}
use Rattle.twe_parser.specs.Values.{literal_value_of}
use Rattle.twe_parser.specs.Written.{word, named}
use Rattle.twe_parser.specs.WritesExpression.{is_smallest, WritesExpression, written, WritesShape, binary, negative, smallest, negation, literal, yes, no, variable, call, array, grid, parentheses, WritesArguments, no_arguments, arguments, MoreArguments, no_more_arguments, more_arguments}
use Rattle.twe_parser.specs.inner.Actions.{performed}
use Rattle.twe_parser.specs.inner.Machine.{result_from}
use Rattle.twe_parser.specs.inner.Productions.{followed, unary_production, after_minus_production}
use Rattle.twe_parser.specs.inner.Terminals.{terminal_of}
use Rattle.twe_parser.specs.inner.ValueStacks.{with_expr, kept}
use Rattle.twe_parser.proofs.Steps.{do_now, by_this_production, left_out, as_unary, level_small, climb_taken, operator_production, Ends, ends_higher, ends_at_operator, ends_at, ends_last}
use Rattle.twe_parser.proofs.FirstTokens.{expression_begins, args_begin}

-- the arguments as a list
abbrev pub list_of : Arguments → List Expression
list_of no_more = []
list_of (argument first others) = first ∷ list_of others

pub arguments_again : (args : Arguments) → arguments_of (list_of args) ≡ args
arguments_again no_more = refl
arguments_again (argument first others) = ap (argument first) (arguments_again others)

-- nothing more of the expression comes
climb_ends : (level : ℕ) (rest : List Token) (stack : List Symbol) (values : ValueStacks) → Ends level rest → result_from rest (Expand (nonterminals.Climb level) ∷ stack) values ≡ result_from rest stack values
climb_ends level [] stack values ends = absurd ends
climb_ends level (token ∷ rest) stack values ends = left_out (nonterminals.Climb level) Nothing token rest stack values ends.climb refl

suffix_ends : (level : ℕ) (rest : List Token) (stack : List Symbol) (values : ValueStacks) → Ends level rest → result_from rest (Expand nonterminals.Suffix ∷ stack) values ≡ result_from rest stack (performed (Expr actions.Variable) values)
suffix_ends level [] stack values ends = absurd ends
suffix_ends level (token ∷ rest) stack values ends = left_out nonterminals.Suffix (Expr actions.Variable) token rest stack values ends.suffix refl

second_ends : (level : ℕ) (rest : List Token) (stack : List Symbol) (values : ValueStacks) → Ends level rest → result_from rest (Expand nonterminals.SecondIndex ∷ stack) values ≡ result_from rest stack (performed (Expr actions.Element) values)
second_ends level [] stack values ends = absurd ends
second_ends level (token ∷ rest) stack values ends = left_out nonterminals.SecondIndex (Expr actions.Element) token rest stack values ends.second refl

-- the values after an expression whose place is kept
abbrev with_args : List Expression → List (List Expression) → ValueStacks → ValueStacks
with_args args others values = record values { args = args ∷ others }

-- `-` and an operand that is not a literal
negated : (shape : Shape) (first : Token) (others rest : List Token) (place : Place) (low : ℕ) (stack : List Symbol) (values : ValueStacks)
    → after_minus_production (terminal_of first.kind) ≡ followed (unary_production (terminal_of first.kind)) (Expand (nonterminals.Climb 6) ∷ Perform (Expr actions.Negate) ∷ [])
    → ((later : List Symbol) (kept_work : ValueStacks) → result_from (first ∷ others) (Expand nonterminals.Unary ∷ Expand (nonterminals.Climb 6) ∷ later) kept_work ≡ result_from rest later (with_expr (expression first.place shape) kept_work))
    → result_from (word fixed.Minus place ∷ first ∷ others) (Expand nonterminals.Unary ∷ Expand (nonterminals.Climb low) ∷ stack) values
    ≡ result_from rest (Expand (nonterminals.Climb low) ∷ stack) (with_expr (expression place (Negative (expression first.place shape))) values)
negated shape first others rest place low stack values begins taken =
    as_unary nonterminals.AfterMinus (Expand (nonterminals.Climb 6) ∷ Perform (Expr actions.Negate) ∷ []) first others (Expand (nonterminals.Climb low) ∷ stack) (kept (word fixed.Minus place) true values) begins refl
    ∙ taken (Perform (Expr actions.Negate) ∷ Expand (nonterminals.Climb low) ∷ stack) (kept (word fixed.Minus place) true values)
    ∙ do_now (Expr actions.Negate) rest (Expand (nonterminals.Climb low) ∷ stack) _

-- `-` and an operand that does not form one literal with it
minus : {shape : Shape} {first : Token} {others rest : List Token} → WritesShape 6 shape (first ∷ others) rest → is_smallest first.kind ≡ false → (place : Place) (low : ℕ) (stack : List Symbol) (values : ValueStacks)
    → ((later : List Symbol) (kept_work : ValueStacks) → result_from (first ∷ others) (Expand nonterminals.Unary ∷ Expand (nonterminals.Climb 6) ∷ later) kept_work ≡ result_from rest later (with_expr (expression first.place shape) kept_work))
    → result_from (word fixed.Minus place ∷ first ∷ others) (Expand nonterminals.Unary ∷ Expand (nonterminals.Climb low) ∷ stack) values
    ≡ result_from rest (Expand (nonterminals.Climb low) ∷ stack) (with_expr (expression place (Negative (expression first.place shape))) values)
minus (binary {op = op} le left right) other place low stack values taken = let small = level_small op in absurd (omega arith)
minus {rest = rest} (literal {value = value} {place = inside}) other place low stack values taken =
    do_now (Expr actions.MinusLiteral) rest (Expand (nonterminals.Climb low) ∷ stack) _
    ∙ ap (λ test. result_from rest (Expand (nonterminals.Climb low) ∷ stack) (with_expr (expression place (if test then Literal (negsuc 2147483647) else Negative (expression inside (Literal (literal_value_of value))))) values)) other
minus {shape = s} {first = f} {others = o} {rest = r} (negative is operand) other place low stack values taken = negated s f o r place low stack values refl taken
minus {shape = s} {first = f} {others = o} {rest = r} smallest other place low stack values taken = negated s f o r place low stack values refl taken
minus {shape = s} {first = f} {others = o} {rest = r} (negation operand) other place low stack values taken = negated s f o r place low stack values refl taken
minus {shape = s} {first = f} {others = o} {rest = r} yes other place low stack values taken = negated s f o r place low stack values refl taken
minus {shape = s} {first = f} {others = o} {rest = r} no other place low stack values taken = negated s f o r place low stack values refl taken
minus {shape = s} {first = f} {others = o} {rest = r} variable other place low stack values taken = negated s f o r place low stack values refl taken
minus {shape = s} {first = f} {others = o} {rest = r} (call args) other place low stack values taken = negated s f o r place low stack values refl taken
minus {shape = s} {first = f} {others = o} {rest = r} (array index) other place low stack values taken = negated s f o r place low stack values refl taken
minus {shape = s} {first = f} {others = o} {rest = r} (grid row column) other place low stack values taken = negated s f o r place low stack values refl taken
minus {shape = s} {first = f} {others = o} {rest = r} (parentheses inside) other place low stack values taken = negated s f o r place low stack values refl taken

mutual
  -- after an operand or a left operand, the machine expects more of the expression
  grow : {level : ℕ} {shape : Shape} {first : Token} {others rest : List Token} → WritesShape level shape (first ∷ others) rest → (low : ℕ) → low ≤ level → Ends (level + 1) rest
      → (stack : List Symbol) (values : ValueStacks)
      → result_from (first ∷ others) (Expand nonterminals.Unary ∷ Expand (nonterminals.Climb low) ∷ stack) values ≡ result_from rest (Expand (nonterminals.Climb low) ∷ stack) (with_expr (expression first.place shape) values)
  grow {level = level} {rest = rest} (binary {op = op} {place = place} {others = others} le (written {shape = shape} {first = first} left) right) low low_le ends stack values =
      grow left low (omega arith) (ends_at_operator op (level_of op + 1) place others (omega arith)) stack values
      ∙ by_this_production (nonterminals.Climb low) (operator_production op low) (word (operator op) place) others stack (with_expr (expression first.place shape) values) (climb_taken op low (omega arith))
      ∙ full right (ends_higher (level + 1) (level_of op + 1) rest (omega arith) ends) (Perform (Expr (actions.Binary op)) ∷ Expand (nonterminals.Climb low) ∷ stack) (kept (word (operator op) place) true (with_expr (expression first.place shape) values))
      ∙ do_now (Expr (actions.Binary op)) rest (Expand (nonterminals.Climb low) ∷ stack) _
  grow {level = level} {rest = rest} (negative {place = place} other (written operand)) low low_le ends stack values =
      minus operand other place low stack values (λ later kept_work. grow operand 6 (omega arith) (ends_higher 6 (6 + 1) rest (omega arith) (ends_last (level + 1) rest ends)) later kept_work
      ∙ climb_ends 6 rest later _ (ends_last (level + 1) rest ends))
  grow {rest = rest} smallest low low_le ends stack values = do_now (Expr actions.MinusLiteral) rest (Expand (nonterminals.Climb low) ∷ stack) _
  grow {level = level} {rest = rest} (negation {place = place} operand) low low_le ends stack values =
      full operand (ends_last (level + 1) rest ends) (Perform (Expr actions.Not) ∷ Expand (nonterminals.Climb low) ∷ stack) (kept (word fixed.Not place) true values)
      ∙ do_now (Expr actions.Not) rest (Expand (nonterminals.Climb low) ∷ stack) _
  grow {rest = rest} literal low low_le ends stack values = do_now (Expr actions.Literal) rest (Expand (nonterminals.Climb low) ∷ stack) _
  grow {rest = rest} yes low low_le ends stack values = do_now (Expr (actions.Truth true)) rest (Expand (nonterminals.Climb low) ∷ stack) _
  grow {rest = rest} no low low_le ends stack values = do_now (Expr (actions.Truth false)) rest (Expand (nonterminals.Climb low) ∷ stack) _
  grow {level = level} {rest = rest} (variable {name = name}) low low_le ends stack values = suffix_ends (level + 1) rest (Expand (nonterminals.Climb low) ∷ stack) (kept (named name) false values) ends
  grow {level = level} {rest = rest} (call {name = name} {args = args} {opening = opening} {others = others} written_args) low low_le ends stack values =
      do_now (Expr actions.NewArgs) others (Expand nonterminals.Args ∷ Perform (Expr actions.CallValue) ∷ Expand (nonterminals.Climb low) ∷ stack) (kept (named name) false values)
      ∙ all_args written_args [] values.args (Perform (Expr actions.CallValue) ∷ Expand (nonterminals.Climb low) ∷ stack) (kept (named name) false values)
      ∙ do_now (Expr actions.CallValue) rest (Expand (nonterminals.Climb low) ∷ stack) _
      ∙ ap (λ made. result_from rest (Expand (nonterminals.Climb low) ∷ stack) (with_expr (expression name.place (CallValue name made)) values)) (arguments_again args)
  grow {level = level} {rest = rest} (array {name = name} {close = close} index) low low_le ends stack values =
      full index (ends_at 0 (word fixed.CloseBracket close) rest (refl, refl, refl)) (symbols.Token fixed.CloseBracket ∷ Expand nonterminals.SecondIndex ∷ Expand (nonterminals.Climb low) ∷ stack) (kept (named name) false values)
      ∙ second_ends (level + 1) rest (Expand (nonterminals.Climb low) ∷ stack) _ ends
  grow {rest = rest} (grid {name = name} {close = close} {second = second} {last = last} {more = more} row column) low low_le ends stack values =
      full row (ends_at 0 (word fixed.CloseBracket close) (word fixed.OpenBracket second ∷ more) (refl, refl, refl)) (symbols.Token fixed.CloseBracket ∷ Expand nonterminals.SecondIndex ∷ Expand (nonterminals.Climb low) ∷ stack) (kept (named name) false values)
      ∙ full column (ends_at 0 (word fixed.CloseBracket last) rest (refl, refl, refl)) (symbols.Token fixed.CloseBracket ∷ Perform (Expr actions.GridElement) ∷ Expand (nonterminals.Climb low) ∷ stack) _
      ∙ do_now (Expr actions.GridElement) rest (Expand (nonterminals.Climb low) ∷ stack) _
  grow {rest = rest} (parentheses {opening = opening} {close = close} inside) low low_le ends stack values =
      full inside (ends_at 0 (word fixed.CloseParen close) rest (refl, refl, refl)) (symbols.Token fixed.CloseParen ∷ Perform (Expr actions.Enclose) ∷ Expand (nonterminals.Climb low) ∷ stack) (kept (word fixed.OpenParen opening) true values)
      ∙ do_now (Expr actions.Enclose) rest (Expand (nonterminals.Climb low) ∷ stack) _

  -- the whole expression
  pub full : {level : ℕ} {e : Expression} {tokens rest : List Token} → WritesExpression level e tokens rest → Ends level rest → (stack : List Symbol) (values : ValueStacks)
      → result_from tokens (Expand nonterminals.Unary ∷ Expand (nonterminals.Climb level) ∷ stack) values ≡ result_from rest stack (with_expr e values)
  full {level = level} {rest = rest} (written {shape = shape} {first = first} written_shape) ends stack values =
      grow written_shape level (omega arith) (ends_higher level (level + 1) rest (omega arith) ends) stack values
      ∙ climb_ends level rest stack (with_expr (expression first.place shape) values) ends

  pub all_args : {args : Arguments} {tokens rest : List Token} → WritesArguments args tokens rest → (done : List Expression) (outer : List (List Expression)) (stack : List Symbol) (values : ValueStacks)
      → result_from tokens (Expand nonterminals.Args ∷ stack) (with_args done outer values) ≡ result_from rest stack (with_args (done ++ list_of args) outer values)
  all_args {rest = rest} no_arguments done outer stack values = ap (λ args. result_from rest stack (with_args args outer values)) (sym (append-nil done))
  all_args (arguments {tokens = []} one written_more) done outer stack values = absurd (false≢true (expression_begins one))
  all_args {rest = rest} (arguments {first = first} {others = others} {tokens = token ∷ tokens} {more = more} one written_more) done outer stack values =
      as_unary nonterminals.Args (Expand (nonterminals.Climb 0) ∷ Perform (Expr actions.KeepArg) ∷ Expand nonterminals.MoreArgs ∷ []) token tokens stack (with_args done outer values) (args_begin (terminal_of token.kind) (expression_begins one)) refl
      ∙ full one (more_args_end written_more) (Perform (Expr actions.KeepArg) ∷ Expand nonterminals.MoreArgs ∷ stack) (with_args done outer values)
      ∙ do_now (Expr actions.KeepArg) more (Expand nonterminals.MoreArgs ∷ stack) _
      ∙ more_args written_more (done ++ first ∷ []) outer stack values
      ∙ ap (λ args. result_from rest stack (with_args args outer values)) (append_assoc done (first ∷ []) (list_of others))

  more_args : {args : Arguments} {tokens rest : List Token} → MoreArguments args tokens rest → (done : List Expression) (outer : List (List Expression)) (stack : List Symbol) (values : ValueStacks)
      → result_from tokens (Expand nonterminals.MoreArgs ∷ stack) (with_args done outer values) ≡ result_from rest stack (with_args (done ++ list_of args) outer values)
  more_args {rest = rest} no_more_arguments done outer stack values = ap (λ args. result_from rest stack (with_args args outer values)) (sym (append-nil done))
  more_args {rest = rest} (more_arguments {first = first} {others = others} {more = more} one written_more) done outer stack values =
      full one (more_args_end written_more) (Perform (Expr actions.KeepArg) ∷ Expand nonterminals.MoreArgs ∷ stack) (with_args done outer values)
      ∙ do_now (Expr actions.KeepArg) more (Expand nonterminals.MoreArgs ∷ stack) _
      ∙ more_args written_more (done ++ first ∷ []) outer stack values
      ∙ ap (λ args. result_from rest stack (with_args args outer values)) (append_assoc done (first ∷ []) (list_of others))

  more_args_end : {args : Arguments} {tokens rest : List Token} → MoreArguments args tokens rest → Ends 0 tokens
  more_args_end {rest = rest} (no_more_arguments {close = close}) = ends_at 0 (word fixed.CloseParen close) rest (refl, refl, refl)
  more_args_end (more_arguments {comma = comma} {tokens = tokens} one written_more) = ends_at 0 (word fixed.Comma comma) tokens (refl, refl, refl)
